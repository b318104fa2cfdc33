-- Pairs of the models' formulas at a small fineness, as the checker works them out; another program has computed the
-- same numbers from exact fractions. Document 01, 'What the numbers mean'.
use Rattle.std.specs.Prelude.{List, [], ◌∷◌, pos, Some, None}
use Rattle.exact_theory.specs.Fraction.{◌over◌}
use Rattle.exact_theory.specs.Formula.{stated}
use Rattle.record_theory.specs.Layout.{scenario_of}
use Rattle.boore_atkinson_theory.specs.Tables.{row_for}
use Rattle.boore_atkinson_theory.specs.SiteTerm.{bnl, nonlinear_part}
use Rattle.engine_theory.specs.Models.{median, sigma}
use Rattle.values_theory.specs.Table.{Check, cut_at, neg}

-- Idriss's median, by Table 3, and its sigma, for whole scenarios; Boore-Atkinson's sigma between the rows 0.03 and
-- 0.05 s (W-201); its slope, and its nonlinear part for stated p below ln 0.03, between it and ln 0.09, above that, and
-- next to ln 0.03, where the pair reaches two branches
abbrev pub pairs : List Check
pairs =
    cut_at 1 (median (scenario_of (Some 1 ∷ Some 676 ∷ Some 100 ∷ Some 4_500 ∷ Some 2 ∷ Some 75 ∷ None ∷ [])))
    (pos 274_689_796_266_994_915_466_518_188_997_902_496_951_795_380_128_349_727_240_714)
    (pos 344_948_681_115_479_763_951_366_673_846_387_345_436_643_864_976_834_575_725_562) ∷
    cut_at 1 (sigma (scenario_of (Some 1 ∷ Some 450 ∷ Some 0 ∷ Some 7_600 ∷ Some 0 ∷ Some 0 ∷ None ∷ [])))
    (pos 774_815_706_722_267_805_071_638_375_602_080_412_040_712_292_899_052_755_735_984)
    (pos 775_480_706_722_267_805_071_638_375_602_080_412_040_712_292_899_052_755_735_984) ∷
    cut_at 2 (sigma (scenario_of (Some 1 ∷ Some 675 ∷ Some 0 ∷ Some 7_600 ∷ Some 0 ∷ Some 750 ∷ None ∷ [])))
    (pos 764_928_210_230_391_410_627_323_072_987_875_810_669_482_044_282_485_816_079_446)
    (pos 764_934_043_563_724_743_960_656_406_321_209_144_002_815_377_615_819_149_412_779) ∷
    cut_at 1 (sigma (scenario_of (Some 1 ∷ Some 790 ∷ Some 0 ∷ Some 7_600 ∷ Some 0 ∷ Some 10_000 ∷ None ∷ [])))
    (pos 768_439_766_029_309_477_059_054_586_042_377_574_019_942_972_295_097_723_757_826)
    (pos 768_463_099_362_642_810_392_387_919_375_710_907_353_276_305_628_431_057_091_160) ∷
    cut_at 1 (sigma (scenario_of (Some 2 ∷ Some 700 ∷ None ∷ Some 7_600 ∷ Some 2 ∷ Some 40 ∷ Some 1_000 ∷ [])))
    (pos 583_122_434_219_634_128_616_243_908_981_336_414_666_355_931_422_953_077_654_151)
    (pos 583_525_630_930_782_510_233_265_939_046_937_452_297_432_735_696_347_627_328_278) ∷
    cut_at 2 (sigma (scenario_of (Some 2 ∷ Some 700 ∷ None ∷ Some 7_600 ∷ Some 2 ∷ Some 40 ∷ Some 1_000 ∷ [])))
    (pos 583_221_129_246_125_777_688_341_032_537_827_451_368_505_031_847_376_643_985_762)
    (pos 583_422_717_612_795_884_608_301_101_228_607_896_428_236_131_251_571_737_343_811) ∷
    cut_at 3 (sigma (scenario_of (Some 2 ∷ Some 700 ∷ None ∷ Some 7_600 ∷ Some 2 ∷ Some 40 ∷ Some 1_000 ∷ [])))
    (pos 583_254_337_316_264_447_431_924_559_826_868_234_718_211_188_634_898_563_128_534)
    (pos 583_388_728_327_458_651_542_458_165_983_453_290_566_966_601_723_809_462_137_911) ∷
    cut_at 1 (bnl (row_for 200).site 2_500)
    (neg 307_829_260_096_899_777_806_628_433_574_455_248_285_214_556_042_732_546_153_886)
    (neg 307_734_954_334_209_285_167_555_141_012_452_424_098_980_745_345_827_469_255_427) ∷
    cut_at 3 (bnl (row_for 1_000).site 2_999)
    (neg 287_201_536_991_589_065_906_910_242_230_244_292_634_563_289_005_406_491_592)
    (neg 287_127_983_136_746_605_963_325_465_867_040_679_143_511_855_226_447_412_232) ∷
    cut_at 1 (nonlinear_part (bnl (row_for 200).site 1_800) (stated (neg 4 over 1)))
    (pos 249_063_492_063_492_063_492_063_492_063_492_063_492_063_492_063_492_063_492_063)
    (pos 283_730_158_730_158_730_158_730_158_730_158_730_158_730_158_730_158_730_158_730) ∷
    cut_at 2 (nonlinear_part (bnl (row_for 200).site 1_800) (stated (neg 3 over 1)))
    (pos 137_903_508_048_798_677_771_244_969_780_587_074_292_769_165_998_365_325_907_308)
    (pos 290_482_603_410_241_481_696_593_909_067_064_105_026_670_122_471_356_224_630_333) ∷
    cut_at 3 (nonlinear_part (bnl (row_for 200).site 1_800) (stated (neg 2 over 1)))
    (neg 240_059_974_745_270_023_327_588_972_011_342_869_257_565_160_387_742_904_534_045)
    (neg 84_059_974_745_270_023_327_588_972_011_342_869_257_565_160_387_742_904_534_045) ∷
    cut_at 2 (nonlinear_part (bnl (row_for 200).site 1_800) (stated (neg 7 over 2)))
    (pos 255_588_666_704_066_195_244_018_713_142_664_818_728_507_242_698_135_816_437_466)
    (pos 275_745_208_277_016_779_467_268_355_760_853_275_067_001_629_648_393_251_586_755) ∷
    cut_at 1 (nonlinear_part (bnl (row_for 3_000).site 1_800) (stated (neg 5 over 2)))
    (neg 823_828_144_139_411_955_438_690_063_938_536_044_043_751_804_280_341_631_261_871)
    (pos 422_356_994_038_383_313_288_909_937_572_428_863_520_002_698_334_780_701_413_558) ∷
    []
