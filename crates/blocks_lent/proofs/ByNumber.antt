-- The block functions of a way, by its cipher's number and its direction.
use mathlib.Core.Path.{◌≡◌, sym, ap, ◌∙◌, subst}
use mathlib.Core.Bool.{Bool}
use mathlib.Core.List.{List, ◌++◌}
use Prim.Native.Nat.{ℕ, ◌*◌}
use lib.Dec.{eqb}
use lib.ListN.{drop}
use borrow.Author.Tests.{eq-eqb, ne_eqb}
use Rattle.laws.specs.Choice.{choose}
use Rattle.hierocrypt3.specs.Block as hierocrypt3-block
use Rattle.e2.specs.Block as e2-block
use Rattle.noekeon_steps.specs.Rule.{Rule, rule, rule_of}
use Rattle.noekeon_steps.specs.declared.Version.{Version}
use Rattle.noekeon.specs.Noekeon as noekeon-block
use Rattle.cbc.specs.Cbc.{cbc_encryption, cbc_decryption, last_or, out, chain, join, blocks, Chained}
use Rattle.cipher_numbers.specs.Ciphers.{Cipher, number}
use Rattle.cipher_numbers.proofs.Legal.{number-1, number-2, number_last}
use Rattle.blocks_lent.specs.Ways.{E, D, F, LegalWay}
use Rattle.blocks_lent.specs.declared.Way.{Way}

module _ (w : Way) (keys : List ℕ) where
  enciphers : {c : Cipher} → number w.cipher ≡ c → c.encipher w.length keys ≡ E w keys
  enciphers e = sym (ap (λ (c : Cipher). c.encipher w.length keys) e)

  deciphers : {c : Cipher} → number w.cipher ≡ c → c.decipher w.length keys ≡ D w keys
  deciphers e = sym (ap (λ (c : Cipher). c.decipher w.length keys) e)

  pub E-1 : {len : ℕ} → len ≡ w.length → w.cipher ≡ 1 → hierocrypt3-block.encipher len keys ≡ E w keys
  E-1 d e = ap (λ (n : ℕ). hierocrypt3-block.encipher n keys) d ∙ enciphers (number-1 w.cipher e)

  pub D-1 : {len : ℕ} → len ≡ w.length → w.cipher ≡ 1 → hierocrypt3-block.decipher len keys ≡ D w keys
  D-1 d e = ap (λ (n : ℕ). hierocrypt3-block.decipher n keys) d ∙ deciphers (number-1 w.cipher e)

  pub E-2 : w.cipher ≡ 2 → e2-block.encipher keys ≡ E w keys
  E-2 e = enciphers (number-2 w.cipher e)

  pub D-2 : w.cipher ≡ 2 → e2-block.decipher keys ≡ D w keys
  D-2 e = deciphers (number-2 w.cipher e)

  module _ (legal : LegalWay w) (no_1 : w.cipher ≡ 1 → ⊥) (no_2 : w.cipher ≡ 2 → ⊥) {v u : Version} (same : v ≡ u) (is : rule_of u ≡ rule (eqb w.cipher 3)) where
    pub E-noekeon : noekeon-block.encipher (rule_of v) keys ≡ E w keys
    E-noekeon = ap (λ (r : Rule). noekeon-block.encipher r keys) (ap rule_of same ∙ is) ∙ enciphers (number_last w.cipher w.length legal no_1 no_2)

    pub D-noekeon : noekeon-block.decipher (rule_of v) keys ≡ D w keys
    D-noekeon = ap (λ (r : Rule). noekeon-block.decipher r keys) (ap rule_of same ∙ is) ∙ deciphers (number_last w.cipher w.length legal no_1 no_2)

  pub F-forth : w.direction ≡ 1 → E w keys ≡ F w keys
  F-forth e = λ i x. choose (sym (eq-eqb w.direction 1 e) i) (E w keys x) (D w keys x)

  pub F-back : (w.direction ≡ 1 → ⊥) → D w keys ≡ F w keys
  F-back n = λ i x. choose (sym (ne_eqb w.direction 1 n) i) (E w keys x) (D w keys x)

  -- a message m, by whatever equals it, through the chain
  module _ (n : ℕ) (c o last o' : List ℕ) {s m : List ℕ} (same : s ≡ m) {f : List ℕ → List ℕ} where
    pub chained-forth : w.direction ≡ 1 → f ≡ E w keys → last ≡ last_or c (cbc_encryption f c (blocks n s))
        → o' ≡ join (cbc_encryption f c (blocks n s)) ++ drop (16 * n) o → Chained (E w keys) (D w keys) w.direction c m o n last o'
    unfolding out chain
    chained-forth d e l r =
        let bs = blocks n s in
        let test = sym (eq-eqb w.direction 1 d) in
        subst (λ (x : List ℕ). Chained (E w keys) (D w keys) w.direction c x o n last o') same
        (record {
          last_is =
              l ∙ ap (λ (h : List ℕ → List ℕ). last_or c (cbc_encryption h c bs)) e
              ∙ ap (λ (t : Bool). choose t (last_or c (cbc_encryption (E w keys) c bs)) (last_or c bs)) test;
          out_is =
              r ∙ ap (λ (h : List ℕ → List ℕ). join (cbc_encryption h c bs) ++ drop (16 * n) o) e
              ∙ ap (λ (t : Bool). join (choose t (cbc_encryption (E w keys) c bs) (cbc_decryption (D w keys) c bs)) ++ drop (16 * n) o) test;
        })

    pub chained-back : (w.direction ≡ 1 → ⊥) → f ≡ D w keys → last ≡ last_or c (blocks n s)
        → o' ≡ join (cbc_decryption f c (blocks n s)) ++ drop (16 * n) o → Chained (E w keys) (D w keys) w.direction c m o n last o'
    unfolding out chain
    chained-back d e l r =
        let bs = blocks n s in
        let test = sym (ne_eqb w.direction 1 d) in
        subst (λ (x : List ℕ). Chained (E w keys) (D w keys) w.direction c x o n last o') same
        (record {
          last_is = l ∙ ap (λ (t : Bool). choose t (last_or c (cbc_encryption (E w keys) c bs)) (last_or c bs)) test;
          out_is =
              r ∙ ap (λ (h : List ℕ → List ℕ). join (cbc_decryption h c bs) ++ drop (16 * n) o) e
              ∙ ap (λ (t : Bool). join (choose t (cbc_encryption (E w keys) c bs) (cbc_decryption (D w keys) c bs)) ++ drop (16 * n) o) test;
        })

    -- its last chain block alone
    pub chain-forth : f ≡ E w keys → last ≡ last_or c (cbc_encryption f c (blocks n s)) → last ≡ chain (E w keys) 1 c (blocks n m)
    unfolding chain
    chain-forth e l = l ∙ (λ i. last_or c (cbc_encryption (e i) c (blocks n (same i))))
