-- `word`: each byte is shifted to its place, where the bytes beside it have zeros.
use mathlib.Core.Path.{◌≡◌, ap, ap₂, ◌∙◌}
use Prim.Native.Nat.{ℕ, ◌+◌, ◌*◌, ◌%◌, ◌^◌}
use native.Mathlib.Omega.{arith}
use lib.Bits.{bit_or, or_shifted}
use borrow.Author.Rules.{rules}
use Rattle.laws.specs.Bytes.{Byte, word}
use Rattle.words.proofs.word.word.Goals as goal

by_shifts : (a b c d : ℕ) → Byte a → Byte b → Byte c → Byte d
    → bit_or (bit_or (bit_or (a * 2 ^ 24 % 2 ^ 32) (b * 2 ^ 16 % 2 ^ 32)) (c * 2 ^ 8 % 2 ^ 32)) d ≡ word a b c d
by_shifts a b c d ha hb hc hd =
    let fits_a : a * 2 ^ 24 % 2 ^ 32 ≡ a * 2 ^ 24 = omega arith in
    let fits_b : b * 2 ^ 16 % 2 ^ 32 ≡ b * 2 ^ 16 = omega arith in
    let fits_c : c * 2 ^ 8 % 2 ^ 32 ≡ c * 2 ^ 8 = omega arith in
    let two : a * 2 ^ 24 + b * 2 ^ 16 ≡ (a * 2 ^ 8 + b) * 2 ^ 16 = omega arith in
    let three : (a * 2 ^ 8 + b) * 2 ^ 16 + c * 2 ^ 8 ≡ (a * 2 ^ 16 + b * 2 ^ 8 + c) * 2 ^ 8 = omega arith in
    let four : (a * 2 ^ 16 + b * 2 ^ 8 + c) * 2 ^ 8 + d ≡ word a b c d = omega arith in
    let x : bit_or (a * 2 ^ 24 % 2 ^ 32) (b * 2 ^ 16 % 2 ^ 32) ≡ (a * 2 ^ 8 + b) * 2 ^ 16
    = ap₂ bit_or fits_a fits_b ∙ or_shifted a 24 (b * 2 ^ 16) (omega arith) ∙ two in
    let y : bit_or (bit_or (a * 2 ^ 24 % 2 ^ 32) (b * 2 ^ 16 % 2 ^ 32)) (c * 2 ^ 8 % 2 ^ 32) ≡ (a * 2 ^ 16 + b * 2 ^ 8 + c) * 2 ^ 8
    = ap₂ bit_or x fits_c ∙ or_shifted (a * 2 ^ 8 + b) 16 (c * 2 ^ 8) (omega arith) ∙ three in
    ap (λ (n : ℕ). bit_or n d) y ∙ or_shifted (a * 2 ^ 16 + b * 2 ^ 8 + c) 8 d hd ∙ four

pub returns : goal.returns
returns c =
    let a = c.args in
    let ha : Byte a.a = search rules in
    let hb : Byte a.b = search rules in
    let hc : Byte a.c = search rules in
    let hd : Byte a.d = search rules in
    record {
      is = rw (c.from.ensures, c.from-2.ensures, c.from-3.ensures, c.from-4.ensures) (by_shifts a.a a.b a.c a.d ha hb hc hd);
      byte0 = ha;
      byte1 = hb;
      byte2 = hc;
      byte3 = hd;
    }
