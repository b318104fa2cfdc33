-- Written by tools/logarithm_tables.py. The tables of the logarithm's factors.
use Rattle.std.specs.Prelude.{List, [], ◌∷◌, ℕ, get_or}
use Rattle.logarithm_tables_theory.specs.declared.Factor.{Factor}

abbrev pub factor : ℕ → ℕ → Factor
factor by logarithm = record { by = by; logarithm = logarithm }

-- ln 2
abbrev pub ln2 : ℕ
ln2 = 2_839_130_851_566

-- by (64 + i)/64 is 4096 or a little above; ln(4096/by). The last has by = 2048, and so ln 2.
abbrev pub coarse : List Factor
coarse =
    factor 4096 0 ∷
    factor 4033 63_489_523_081 ∷
    factor 3972 125_915_715_806 ∷
    factor 3913 187_214_006_308 ∷
    factor 3856 247_318_573_010 ∷
    factor 3800 307_240_226_835 ∷
    factor 3745 366_957_653_065 ∷
    factor 3693 424_229_895_645 ∷
    factor 3641 482_314_315_955 ∷
    factor 3592 537_811_915_968 ∷
    factor 3543 594_071_805_352 ∷
    factor 3496 648_771_297_049 ∷
    factor 3450 703_023_745_817 ∷
    factor 3405 756_801_323_562 ∷
    factor 3361 810_075_500_519 ∷
    factor 3319 861_582_766_076 ∷
    factor 3277 913_745_993_810 ∷
    factor 3237 964_050_586_799 ∷
    factor 3197 1_014_980_680_331 ∷
    factor 3159 1_063_957_978_795 ∷
    factor 3121 1_113_528_010_539 ∷
    factor 3085 1_161_049_007_633 ∷
    factor 3049 1_209_127_812_016 ∷
    factor 3014 1_256_418_457_732 ∷
    factor 2979 1_304_261_484_566 ∷
    factor 2946 1_349_888_285_475 ∷
    factor 2913 1_396_029_070_374 ∷
    factor 2881 1_441_273_575_973 ∷
    factor 2850 1_485_585_995_595 ∷
    factor 2819 1_530_383_055_276 ∷
    factor 2789 1_574_206_583_157 ∷
    factor 2760 1_617_019_731_998 ∷
    factor 2731 1_660_285_113_322 ∷
    factor 2703 1_702_496_749_330 ∷
    factor 2675 1_745_147_934_262 ∷
    factor 2648 1_786_700_798_613 ∷
    factor 2622 1_827_117_065_809 ∷
    factor 2596 1_867_936_108_111 ∷
    factor 2571 1_907_572_569_917 ∷
    factor 2546 1_947_596_339_613 ∷
    factor 2521 1_988_015_061_116 ∷
    factor 2497 2_027_195_909_892 ∷
    factor 2474 2_065_099_217_984 ∷
    factor 2450 2_105_028_047_583 ∷
    factor 2428 2_141_974_587_551 ∷
    factor 2405 2_180_960_191_194 ∷
    factor 2384 2_216_882_743_430 ∷
    factor 2362 2_254_856_888_159 ∷
    factor 2341 2_291_436_336_034 ∷
    factor 2320 2_328_345_403_628 ∷
    factor 2300 2_363_808_828_623 ∷
    factor 2280 2_399_581_981_775 ∷
    factor 2260 2_435_670_320_953 ∷
    factor 2241 2_470_251_286_187 ∷
    factor 2222 2_505_126_692_938 ∷
    factor 2203 2_540_301_598_373 ∷
    factor 2185 2_573_906_162_434 ∷
    factor 2167 2_607_788_708_583 ∷
    factor 2149 2_641_953_874_228 ∷
    factor 2132 2_674_484_762_345 ∷
    factor 2115 2_707_276_084_171 ∷
    factor 2098 2_740_332_043_310 ∷
    factor 2081 2_773_656_945_966 ∷
    factor 2065 2_805_271_188_776 ∷
    factor 2048 2_839_130_851_566 ∷
    []

-- the entry at i, and past the end the last
unfoldable pub coarse_at : ℕ → Factor
coarse_at i = get_or coarse i (factor 2048 2_839_130_851_566)

-- by (4096 + i)/4096 is 16384 or a little above; ln(16384/by).
abbrev pub fine : List Factor
fine =
    factor 16_384 0 ∷
    factor 16_381 750_068_672 ∷
    factor 16_377 1_750_373_946 ∷
    factor 16_373 2_750_923_570 ∷
    factor 16_369 3_751_717_662 ∷
    factor 16_365 4_752_756_342 ∷
    factor 16_361 5_754_039_730 ∷
    factor 16_357 6_755_567_946 ∷
    factor 16_353 7_757_341_109 ∷
    factor 16_349 8_759_359_339 ∷
    factor 16_345 9_761_622_757 ∷
    factor 16_341 10_764_131_481 ∷
    factor 16_337 11_766_885_632 ∷
    factor 16_333 12_769_885_331 ∷
    factor 16_329 13_773_130_698 ∷
    factor 16_325 14_776_621_853 ∷
    factor 16_321 15_780_358_916 ∷
    factor 16_317 16_784_342_008 ∷
    factor 16_313 17_788_571_250 ∷
    factor 16_309 18_793_046_762 ∷
    factor 16_305 19_797_768_666 ∷
    factor 16_301 20_802_737_082 ∷
    factor 16_297 21_807_952_131 ∷
    factor 16_293 22_813_413_934 ∷
    factor 16_289 23_819_122_612 ∷
    factor 16_285 24_825_078_287 ∷
    factor 16_281 25_831_281_081 ∷
    factor 16_277 26_837_731_113 ∷
    factor 16_273 27_844_428_507 ∷
    factor 16_269 28_851_373_383 ∷
    factor 16_265 29_858_565_864 ∷
    factor 16_261 30_866_006_071 ∷
    factor 16_257 31_873_694_126 ∷
    factor 16_254 32_629_622_890 ∷
    factor 16_250 33_637_744_973 ∷
    factor 16_246 34_646_115_239 ∷
    factor 16_242 35_654_733_811 ∷
    factor 16_238 36_663_600_811 ∷
    factor 16_234 37_672_716_362 ∷
    factor 16_230 38_682_080_586 ∷
    factor 16_226 39_691_693_605 ∷
    factor 16_222 40_701_555_543 ∷
    factor 16_218 41_711_666_523 ∷
    factor 16_214 42_722_026_666 ∷
    factor 16_210 43_732_636_096 ∷
    factor 16_206 44_743_494_936 ∷
    factor 16_203 45_501_802_816 ∷
    factor 16_199 46_513_098_420 ∷
    factor 16_195 47_524_643_773 ∷
    factor 16_191 48_536_438_998 ∷
    factor 16_187 49_548_484_219 ∷
    factor 16_183 50_560_779_560 ∷
    factor 16_179 51_573_325_143 ∷
    factor 16_175 52_586_121_093 ∷
    factor 16_171 53_599_167_534 ∷
    factor 16_167 54_612_464_589 ∷
    factor 16_164 55_372_601_920 ∷
    factor 16_160 56_386_337_849 ∷
    factor 16_156 57_400_324_734 ∷
    factor 16_152 58_414_562_699 ∷
    factor 16_148 59_429_051_868 ∷
    factor 16_144 60_443_792_366 ∷
    factor 16_140 61_458_784_318 ∷
    factor 16_136 62_474_027_848 ∷
    []

-- the entry at i, and past the end the last
unfoldable pub fine_at : ℕ → Factor
fine_at i = get_or fine i (factor 16_136 62_474_027_848)
