-- Pieces put one after the other stand there as one, and the round keys laid out one by one are those of the definition (002, section 2.3.4).
use mathlib.Core.Path.{◌≡◌, refl, sym, ap, ◌∙◌, subst}
use mathlib.Core.List.{List, ◌++◌}
use Prim.Native.Nat.{ℕ, zero, suc, ◌+◌, ◌-◌, ◌*◌, ◌/◌, ◌%◌, ◌≤◌, ◌<◌}
use native.Mathlib.Nat.{not-suc-le-zero}
use native.Mathlib.Numerals.{add-one}
use native.Mathlib.Decide.{dec_lt}
use native.Mathlib.Omega.{arith}
use lib.ListN.{length, get_or, replicate, get_or-append, get_or-eq_default}
use lib.Seq.{get_or-append-add}
use Rattle.laws.specs.Places.{tab}
use Rattle.laws.proofs.Places.{tab_is, get_or-tab, length-tab}
use Rattle.hierocrypt3_keys.specs.declared.Intermediate.{Intermediate}
use Rattle.hierocrypt3_steps.specs.Rounds.{T}
use Rattle.hierocrypt3_keys.specs.code.Placed.{Placed}
use Rattle.hierocrypt3_keys.specs.Keys.{next, Z, key_of, K, round_keys}

-- a piece k of m bytes, then a piece l of n bytes
pub placed_append : {at next m n : ℕ} {k l a b c : List ℕ} → length k ≡ m → next ≡ at + m → Placed at m k a b → Placed next n l b c
    → Placed at (m + n) (k ++ l) a c
placed_append {at} {next} {m} {n} {k} {l} {a} {b} {c} e i v w =
    record {
      long = w.long ∙ v.long;
      there = λ j h. at_j j h (dec_lt j m);
      below = λ j h. w.below j (omega (arith, i)) ∙ v.below j h;
      above = λ j h. w.above j (omega (arith, i)) ∙ v.above j (omega arith);
    }
  where
    first : (j : ℕ) → j < m → get_or c (at + j) 0 ≡ get_or (k ++ l) j 0
    first j h =
        w.below (at + j) (omega (arith, i)) ∙ v.there j h ∙ sym (get_or-append k l 0 j (subst (λ (x : ℕ). j < x) (sym e) h))

    second : (j : ℕ) → m ≤ j → j < m + n → get_or c (at + j) 0 ≡ get_or (k ++ l) j 0
    second j g h =
        let d : at + j ≡ next + (j - m) = omega (arith, i) in
        let f : length k + (j - m) ≡ j = omega (arith, e) in
        ap (λ (x : ℕ). get_or c x 0) d
        ∙ w.there (j - m) (omega arith)
        ∙ sym (get_or-append-add k l (j - m) 0) ∙ ap (λ (x : ℕ). get_or (k ++ l) x 0) f

    at_j : (j : ℕ) → j < m + n → Dec (j < m) → get_or c (at + j) 0 ≡ get_or (k ++ l) j 0
    at_j j h (yes g) = first j g
    at_j j h (no q) = second j (omega arith) h

-- ---- the steps of the intermediate keys and the keys they give, by the loop's count
pub Z_step : (key : List ℕ) (t : ℕ) (z y : Intermediate) → y ≡ next (length key) (t + 1) z → z ≡ Z key t → y ≡ Z key (t + 1)
unfolding Z
Z_step key t z y e d = e ∙ (λ i. next (length key) (add-one t i) (d i)) ∙ ap (Z key) (sym (add-one t))

pub K_step : (key : List ℕ) (t : ℕ) (z y : Intermediate) (k : List ℕ) → k ≡ key_of (length key) (t + 1) z y → z ≡ Z key t → y ≡ Z key (t + 1) → k ≡ K key (suc t)
unfolding K
K_step key t z y k e d f =
    let s : t ≡ suc t - 1 = omega arith in
    e ∙ (λ i. key_of (length key) (add-one t i) ((d ∙ ap (Z key) s) i) ((f ∙ ap (Z key) (add-one t)) i))

-- ---- the first t keys are laid out, and the rest is zero
pub record Laid (key : List ℕ) (t : ℕ) (keys : List ℕ) : Type 0 where
  pub long : length keys ≡ 288
  pub done : (n : ℕ) → n < t * 32 → get_or keys n 0 ≡ get_or (K key (suc (n / 32))) (n % 32) 0
  pub rest : (n : ℕ) → t * 32 ≤ n → get_or keys n 0 ≡ 0

zero_at : (m n : ℕ) → get_or {A = ℕ} (replicate m 0) n 0 ≡ 0
zero_at zero n = refl
zero_at (suc m) zero = refl
zero_at (suc m) (suc n) = zero_at m n

pub laid_start : (key : List ℕ) → Laid key 0 (replicate 288 0)
laid_start key = record { long = refl; done = λ n h. absurd (not-suc-le-zero h); rest = λ n h. zero_at 288 n }

pub laid_step : {key : List ℕ} {t : ℕ} {keys r : List ℕ} (k : List ℕ) → Laid key t keys → Placed (t * 32) 32 k keys r → k ≡ K key (suc t) → Laid key (t + 1) r
laid_step {key} {t} {keys} {r} k w p e =
    record {
      long = p.long ∙ w.long;
      done = λ n h. at_n n h (dec_lt n (t * 32));
      rest = λ n h. p.above n (omega arith) ∙ w.rest n (omega arith);
    }
  where
    at_n : (n : ℕ) → n < (t + 1) * 32 → Dec (n < t * 32) → get_or r n 0 ≡ get_or (K key (suc (n / 32))) (n % 32) 0
    at_n n h (yes l) = p.below n l ∙ w.done n l
    at_n n h (no q) =
        let j : ℕ = n - t * 32 in
        let d : n ≡ t * 32 + j = omega arith in
        let a : t ≡ n / 32 = omega arith in
        let b : j ≡ n % 32 = omega arith in
        ap (λ (m : ℕ). get_or r m 0) d ∙ p.there j (omega arith) ∙ (λ i. get_or (e i) (b i) 0) ∙ ap (λ (m : ℕ). get_or (K key (suc m)) (n % 32) 0) a

pub laid_end : (key keys : List ℕ) → Laid key (T (length key) + 1) keys → keys ≡ tab 288 (λ n. get_or (round_keys key) n 0)
unfolding round_keys
laid_end key keys w =
    tab_is 288 (λ n. get_or (round_keys key) n 0) 0 keys w.long (λ n h. at_n n (dec_lt n ((T (length key) + 1) * 32)))
  where
    at_n : (n : ℕ) → Dec (n < (T (length key) + 1) * 32) → get_or keys n 0 ≡ get_or (round_keys key) n 0
    at_n n (yes l) = w.done n l ∙ sym (get_or-tab ((T (length key) + 1) * 32) (λ m. get_or (K key (suc (m / 32))) (m % 32) 0) n 0 l)
    at_n n (no q) =
        let long : length (round_keys key) ≡ (T (length key) + 1) * 32 = length-tab ((T (length key) + 1) * 32) (λ m. get_or (K key (suc (m / 32))) (m % 32) 0) in
        w.rest n (omega arith) ∙ sym (get_or-eq_default (round_keys key) 0 (omega (arith, long)))
