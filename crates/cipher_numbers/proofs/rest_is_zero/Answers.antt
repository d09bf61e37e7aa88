use mathlib.Core.Path.{◌≡◌, ◌∙◌}
use mathlib.Core.List.{List}
use Prim.Native.Nat.{ℕ}
use native.Mathlib.Omega.{arith}
use lib.ListN.{drop}
use Rattle.runs.specs.Zeros.{zeros}
use Rattle.cipher_numbers.specs.Ciphers.{Cipher, number}
use Rattle.cipher_numbers.proofs.Legal.{legal_length, number-1, number-2, number_last}
use Rattle.cipher_numbers.proofs.rest_is_zero.Goals as goal

-- what stands behind the used bytes, where the cipher and the length are known
known : (n len m : ℕ) (keys : List ℕ) (k : Cipher) → number n ≡ k → len ≡ m → zeros (drop (k.used m) keys) ≡ zeros (drop ((number n).used len) keys)
known n len m keys k e f = rw (e, f)

pub returns-then-len-eq16 : goal.returns-then-len-eq16
returns-then-len-eq16 c = c.zero_from.ensures ∙ known _ _ 16 c.args.keys.now _ (number-1 _ c.if-cipher-eq-HIEROCRYPT3.true) c.if-len-eq16.true

pub returns-then-len-eq24 : goal.returns-then-len-eq24
returns-then-len-eq24 c = c.zero_from-then-len-eq24.ensures ∙ known _ _ 24 c.args.keys.now _ (number-1 _ c.if-cipher-eq-HIEROCRYPT3.true) c.if-len-eq24.true

pub returns-then-cipher-eq-HIEROCRYPT3 : goal.returns-then-cipher-eq-HIEROCRYPT3
returns-then-cipher-eq-HIEROCRYPT3 c = let l = legal_length _ _ c.requires in
    let e : c.args.len ≡ 32 = omega (arith, c.if-len-eq16.false, c.if-len-eq24.false) in
    c.zero_from-then-cipher-eq-HIEROCRYPT3.ensures ∙ known _ _ 32 c.args.keys.now _ (number-1 _ c.if-cipher-eq-HIEROCRYPT3.true) e

pub returns-then-cipher-eq-E2 : goal.returns-then-cipher-eq-E2
returns-then-cipher-eq-E2 c = rw (number-2 _ c.if-cipher-eq-E2.true) c.zero_from-then-cipher-eq-E2.ensures

pub returns : goal.returns
returns c = rw (number_last _ _ c.requires c.if-cipher-eq-HIEROCRYPT3.false c.if-cipher-eq-E2.false) c.zero_from-2.ensures
