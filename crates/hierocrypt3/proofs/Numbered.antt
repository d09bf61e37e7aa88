-- The loops over n + 1 rounds, of which the last has no MDS_H, make encryption and decryption (002, sections 2.1 and 2.2).
use mathlib.Core.Path.{◌≡◌, refl, ap, ◌∙◌}
use mathlib.Core.Bool.{Bool}
use mathlib.Core.List.{List}
use Prim.Native.Nat.{ℕ, zero, suc, ◌+◌, ◌≤◌, ◌<◌}
use native.Mathlib.Nat.{le-suc, le_refl, le_trans}
use native.Mathlib.Numerals.{add-one}
use native.Mathlib.Omega.{arith}
use lib.Dec.{ltb}
use borrow.Author.Tests.{lt-ltb, le-ltb}
use Rattle.laws.specs.Choice.{choose}
use Rattle.laws.specs.Rounds.{steps, back}
use Rattle.laws.proofs.Rounds.{Stepped, steps_end}
use Rattle.hierocrypt3_steps.specs.Operations.{MDSH⁻}
use Rattle.hierocrypt3.specs.Block.{add_key, first_half, XS, XS⁻, ρ, ρ⁻, round_key, encryption, decryption}
use Rattle.hierocrypt3.specs.code.Columns.{round_at, round_at⁻}

module _ {A : Type 0} where
  pub if_more : (i n : ℕ) (x y : A) → i < n → choose (ltb i n) x y ≡ x
  if_more i n x y h = ap (λ (t : Bool). choose t x y) (lt-ltb i n h)

  pub if_last : (i n : ℕ) (x y : A) → n ≤ i → choose (ltb i n) x y ≡ y
  if_last i n x y h = ap (λ (t : Bool). choose t x y) (le-ltb i n h)

  -- rounds that are equal one by one
  steps_equal : (n : ℕ) (f g : ℕ → A → A) → ((i : ℕ) (q : A) → i < n → f i q ≡ g i q) → (a : A) → steps n f a ≡ steps n g a
  steps_equal zero f g h a = refl
  steps_equal (suc n) f g h a =
      h n (steps n f a) (le_refl (suc n)) ∙ ap (g n) (steps_equal n f g (λ i q l. h i q (le_trans l (le-suc n))) a)

  back_equal : (n : ℕ) (f g : ℕ → A → A) → ((i : ℕ) (q : A) → i < n → f i q ≡ g i q) → (a : A) → back n f a ≡ back n g a
  back_equal zero f g h a = refl
  back_equal (suc n) f g h a =
      back_equal n f g (λ i q l. h i q (le_trans l (le-suc n))) (f n a) ∙ ap (back n g) (h n a (le_refl (suc n)))

module _ (keys : List ℕ) (n : ℕ) where
  abbrev k : ℕ → List ℕ
  k = round_key keys

  all_rounds : (x : List (List ℕ)) → steps (suc n) (round_at keys n) x ≡ XS (k (n + 1)) (steps n (λ i. ρ (k (i + 1))) x)
  all_rounds x =
      if_last n n (ρ (k (n + 1)) (steps n (round_at keys n) x)) (XS (k (n + 1)) (steps n (round_at keys n) x)) (le_refl n)
      ∙ ap (XS (k (n + 1)))
      (steps_equal n (round_at keys n) (λ i. ρ (k (i + 1))) (λ i q l. if_more i n (ρ (k (i + 1)) q) (XS (k (i + 1)) q) l) x)

  pub encryption_end : (i : ℕ) (x q : List (List ℕ)) → Stepped (round_at keys n) x i q → i ≤ n + 1 → n < i
      → add_key (first_half (k (n + 1 + 1))) q ≡ encryption n k x
  unfolding encryption
  encryption_end i x q s h l =
      let e : n + 1 + 1 ≡ n + 2 = omega arith in
      ap (λ (m : ℕ). add_key (first_half (k m)) q) e
      ∙ ap (add_key (first_half (k (n + 2))))
      (steps_end (n + 1) s h (omega arith) ∙ ap (λ (m : ℕ). steps m (round_at keys n) x) (add-one n) ∙ all_rounds x)

  all_rounds⁻ : (x : List (List ℕ)) → back (suc n) (round_at⁻ keys n) x ≡ back n (λ i. ρ⁻ (k (i + 1))) (XS⁻ (k (n + 1)) x)
  unfolding ρ⁻
  all_rounds⁻ x =
      ap (λ (q : List (List ℕ)). back n (round_at⁻ keys n) (XS⁻ (k (n + 1)) q)) (if_last n n (MDSH⁻ x) x (le_refl n))
      ∙ back_equal n (round_at⁻ keys n) (λ i. ρ⁻ (k (i + 1))) (λ i q l. ap (XS⁻ (k (i + 1))) (if_more i n (MDSH⁻ q) q l)) (XS⁻ (k (n + 1)) x)

  pub decryption_end : (x q : List (List ℕ)) → q ≡ add_key (first_half (k (n + 1 + 1))) x → back (n + 1) (round_at⁻ keys n) q ≡ decryption n k x
  unfolding decryption
  decryption_end x q e =
      let d : n + 1 + 1 ≡ n + 2 = omega arith in
      ap (back (n + 1) (round_at⁻ keys n)) (e ∙ ap (λ (m : ℕ). add_key (first_half (k m)) x) d)
      ∙ ap (λ (m : ℕ). back m (round_at⁻ keys n) (add_key (first_half (k (n + 2))) x)) (add-one n)
      ∙ all_rounds⁻ (add_key (first_half (k (n + 2))) x)
