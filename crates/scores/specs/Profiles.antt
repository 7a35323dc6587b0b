-- The eight key profiles of the Rust's classify_key_impl, each a weight for the twelve pitch classes from the tonic up. Definitions only.
use Rattle.std.specs.Prelude.{ℕ, List, [], ◌∷◌, map, get_or, Float}
use Rattle.std.specs.Float.{binary32}
use Rattle.std.specs.Float.Ieee.{of_bits}

-- bit patterns, with the numbers above them; row 2 * p + mode is profile p's, 0 for major and 1 for minor
abbrev patterns : List (List ℕ)
patterns =
    -- Krumhansl major: 6.35 2.23 3.48 2.33 4.38 4.09 2.52 5.19 2.39 3.66 2.29 2.88
    (0x40cb_3333 ∷ 0x400e_b852 ∷ 0x405e_b852 ∷ 0x4015_1eb8 ∷ 0x408c_28f6 ∷ 0x4082_e148 ∷ 0x4021_47ae ∷ 0x40a6_147b ∷ 0x4018_f5c3 ∷ 0x406a_3d71 ∷ 0x4012_8f5c ∷ 0x4038_51ec ∷ [])
    -- Krumhansl minor: 6.33 2.68 3.52 5.38 2.60 3.53 2.54 4.75 3.98 2.69 3.34 3.17
    ∷ (0x40ca_8f5c ∷ 0x402b_851f ∷ 0x4061_47ae ∷ 0x40ac_28f6 ∷ 0x4026_6666 ∷ 0x4061_eb85 ∷ 0x4022_8f5c ∷ 0x4098_0000 ∷ 0x407e_b852 ∷ 0x402c_28f6 ∷ 0x4055_c28f ∷ 0x404a_e148 ∷ [])
    -- Temperley major: 5.00 2.00 3.50 2.00 4.50 4.00 2.00 4.50 2.00 3.50 1.50 4.00
    ∷ (0x40a0_0000 ∷ 0x4000_0000 ∷ 0x4060_0000 ∷ 0x4000_0000 ∷ 0x4090_0000 ∷ 0x4080_0000 ∷ 0x4000_0000 ∷ 0x4090_0000 ∷ 0x4000_0000 ∷ 0x4060_0000 ∷ 0x3fc0_0000 ∷ 0x4080_0000 ∷ [])
    -- Temperley minor: 5.00 2.00 3.50 4.50 2.00 4.00 2.00 4.50 3.50 2.00 1.50 4.00
    ∷ (0x40a0_0000 ∷ 0x4000_0000 ∷ 0x4060_0000 ∷ 0x4090_0000 ∷ 0x4000_0000 ∷ 0x4080_0000 ∷ 0x4000_0000 ∷ 0x4090_0000 ∷ 0x4060_0000 ∷ 0x4000_0000 ∷ 0x3fc0_0000 ∷ 0x4080_0000 ∷ [])
    -- EDMA major: 6.80 3.00 4.20 2.80 5.60 4.40 2.60 5.80 3.20 4.40 2.40 3.80
    ∷ (0x40d9_999a ∷ 0x4040_0000 ∷ 0x4086_6666 ∷ 0x4033_3333 ∷ 0x40b3_3333 ∷ 0x408c_cccd ∷ 0x4026_6666 ∷ 0x40b9_999a ∷ 0x404c_cccd ∷ 0x408c_cccd ∷ 0x4019_999a ∷ 0x4073_3333 ∷ [])
    -- EDMA minor: 6.60 3.20 4.00 5.40 3.00 4.20 2.80 5.20 4.40 3.00 3.60 3.60
    ∷ (0x40d3_3333 ∷ 0x404c_cccd ∷ 0x4080_0000 ∷ 0x40ac_cccd ∷ 0x4040_0000 ∷ 0x4086_6666 ∷ 0x4033_3333 ∷ 0x40a6_6666 ∷ 0x408c_cccd ∷ 0x4040_0000 ∷ 0x4066_6666 ∷ 0x4066_6666 ∷ [])
    -- learned major: 0.0972 0.0776 0.0833 0.0754 0.0850 0.0818 0.0749 0.0922 0.0743 0.0804 0.0766 0.0831
    ∷ (0x3dc7_10cb ∷ 0x3d9e_ecc0 ∷ 0x3daa_9931 ∷ 0x3d9a_6b51 ∷ 0x3dae_147b ∷ 0x3da7_86c2 ∷ 0x3d99_652c ∷ 0x3dbc_d35b ∷ 0x3d98_2a99 ∷ 0x3da4_a8c1 ∷ 0x3d9c_e076 ∷ 0x3daa_3055 ∷ [])
    -- learned minor: 0.0972 0.0815 0.0815 0.0825 0.0745 0.0798 0.0754 0.0917 0.0808 0.0769 0.0830 0.0819
    ∷ (0x3dc7_10cb ∷ 0x3da6_e979 ∷ 0x3da6_e979 ∷ 0x3da8_f5c3 ∷ 0x3d98_9375 ∷ 0x3da3_6e2f ∷ 0x3d9a_6b51 ∷ 0x3dbb_cd36 ∷ 0x3da5_7a78 ∷ 0x3d9d_7dbf ∷ 0x3da9_fbe7 ∷ 0x3da7_bb30 ∷ [])
    ∷ []

-- the table as values
unfoldable pub profiles : List (List Float)
profiles = map (map (of_bits binary32)) patterns

-- a row of the table
unfoldable pub profile_at : ℕ → List Float
profile_at row = get_or profiles row []
