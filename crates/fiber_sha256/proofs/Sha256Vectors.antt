-- The definition, run by antt on NIST's examples for FIPS 180-4: "abc", and a message of two blocks.
-- Each holds by computing. Assumes nothing.
use Rattle.std.proofs.Common.{◌≡◌, [], ◌∷◌, refl}
use mathlib.Core.List.{flat_map}
use Rattle.fiber_bytes.specs.Bytes.{be, be_bytes}
use Rattle.fiber_bytes.specs.Words.{rotated}
use Rattle.fiber_sha256.specs.Sha256.{ch, maj, sum0, sum1, sig0, sig1, constants, padded, initial, loaded, extended, t1, t2, turned, turns, folded, compressed, absorbed, sha256}

-- "abc"
one_block : sha256 (97 ∷ 98 ∷ 99 ∷ [])
    ≡ flat_map (be_bytes 4) (0xba78_16bf ∷ 0x8f01_cfea ∷ 0x4141_40de ∷ 0x5dae_2223 ∷ 0xb003_61a3 ∷ 0x9617_7a9c ∷ 0xb410_ff61 ∷ 0xf200_15ad ∷ [])
unfolding rotated be be_bytes ch maj sum0 sum1 sig0 sig1 constants padded initial loaded extended t1 t2 turned turns folded compressed absorbed flat_map sha256
one_block = refl

-- "abcdbcdecdefdefgefghfghighijhijkijkljklmklmnlmnomnopnopq"
two_blocks : sha256 (97 ∷ 98 ∷ 99 ∷ 100 ∷ 98 ∷ 99 ∷ 100 ∷ 101 ∷ 99 ∷ 100 ∷ 101 ∷ 102 ∷ 100 ∷ 101 ∷ 102 ∷ 103 ∷ 101 ∷ 102 ∷ 103 ∷ 104 ∷ 102 ∷ 103 ∷ 104 ∷ 105 ∷ 103 ∷ 104 ∷ 105 ∷ 106 ∷ 104 ∷ 105 ∷ 106 ∷ 107 ∷ 105 ∷ 106 ∷ 107 ∷ 108 ∷ 106 ∷ 107 ∷ 108 ∷ 109 ∷ 107 ∷ 108 ∷ 109 ∷ 110 ∷ 108 ∷ 109 ∷ 110 ∷ 111 ∷ 109 ∷ 110 ∷ 111 ∷ 112 ∷ 110 ∷ 111 ∷ 112 ∷ 113 ∷ [])
    ≡ flat_map (be_bytes 4) (0x248d_6a61 ∷ 0xd206_38b8 ∷ 0xe5c0_2693 ∷ 0x0c3e_6039 ∷ 0xa33c_e459 ∷ 0x64ff_2167 ∷ 0xf6ec_edd4 ∷ 0x19db_06c1 ∷ [])
unfolding rotated be be_bytes ch maj sum0 sum1 sig0 sig1 constants padded initial loaded extended t1 t2 turned turns folded compressed absorbed flat_map sha256
two_blocks = refl
