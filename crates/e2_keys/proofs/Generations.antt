-- The loop over the generations: after i of them y and l are those of generation i, and the bytes of q0 .. q(4i-1) stand in their places.
use mathlib.Core.Path.{◌≡◌, refl, sym, ap, ap₂, ◌∙◌, subst}
use mathlib.Core.List.{List, []}
use Prim.Native.Nat.{ℕ, zero, suc, ◌+◌, ◌-◌, ◌*◌, ◌/◌, ◌%◌, ◌≤◌, ◌<◌}
use native.Mathlib.Decide.{dec_lt}
use native.Mathlib.Nat.{not-suc-le-zero}
use native.Mathlib.Omega.{arith}
use lib.Dec.{T, ltb, lit<}
use lib.ListN.{length, get_or, replicate, length-replicate, get_or-eq_default}
use Rattle.laws.specs.Places.{tab, quarters}
use Rattle.laws.proofs.Places.{get_or-tab, length-tab, tab_is}
use Rattle.e2_steps.specs.code.Layout.{pair_bytes}
use Rattle.e2_keys.specs.Keys.{g, full_key, Y, L, G, generation, q, subkey, round_keys}
use Rattle.e2_keys.specs.code.Layout.{four_halves, apart}
use Rattle.e2_keys.specs.declared.Four.{Four}
use Rattle.e2_keys.proofs.Apart.{apart_long, put_behind, put_at}

-- ---- byte n of k1 .. k16, and what is behind them
round_keys_at : (key : List ℕ) (n : ℕ) → n < 256 → get_or (q key (n % 16 * 2 + n / 16 % 2)) (n / 32) 0 ≡ get_or (round_keys key) n 0
unfolding round_keys subkey
round_keys_at key n h =
    let a : n % 16 * 2 + n / 16 % 2 ≡ n % 16 * 2 + (suc (n / 16) - 1) % 2 = omega arith in
    let b : n / 32 ≡ (suc (n / 16) - 1) / 2 = omega arith in
    ap₂ (λ (u v : ℕ). get_or (q key u) v 0) a b
    ∙ sym (get_or-tab 256 (λ m. get_or (subkey key (suc (m / 16))) (m % 16) 0) n 0 h
    ∙ get_or-tab 16 (λ m. get_or (q key (m * 2 + (suc (n / 16) - 1) % 2)) ((suc (n / 16) - 1) / 2) 0) (n % 16) 0 (omega arith))

round_keys_long : (key : List ℕ) → length (round_keys key) ≡ 256
unfolding round_keys
round_keys_long key = length-tab 256 (λ n. get_or (subkey key (suc (n / 16))) (n % 16) 0)

round_keys_behind : (key : List ℕ) (n : ℕ) → 256 ≤ n → get_or (round_keys key) n 0 ≡ 0
round_keys_behind key n h = let e = round_keys_long key in get_or-eq_default (round_keys key) 0 (omega arith)

-- ---- the invariant
pub record Generating (key : List ℕ) (i : ℕ) (y l : Four) (r : List ℕ) : Type 0 where
  pub is_y : four_halves y ≡ (generation key i).Y
  pub is_l : four_halves l ≡ (generation key i).L
  pub long : length r ≡ 288
  pub done : (n : ℕ) → n < 256 → n % 16 / 2 < i → get_or r n 0 ≡ get_or (round_keys key) n 0
  pub rest : (n : ℕ) → 256 ≤ n → get_or r n 0 ≡ 0

zeros : (k n : ℕ) → get_or {A = ℕ} (replicate k 0) n 0 ≡ 0
zeros zero n = refl
zeros (suc k) zero = refl
zeros (suc k) (suc n) = zeros k n

pub generating_start : (key : List ℕ) (k y l : Four) → four_halves k ≡ quarters 0 8 (full_key key) → four_halves y ≡ Y (four_halves k)
    → four_halves l ≡ L (four_halves y) g → Generating key 0 y l (replicate 288 0)
unfolding generation G
generating_start key k y l ek ey el =
    let e : four_halves y ≡ Y (quarters 0 8 (full_key key)) = ey ∙ ap Y ek in
    record {
      is_y = e;
      is_l = el ∙ ap (λ (z : List (List ℕ)). L z g) e;
      long = length-replicate {A = ℕ} 288 0;
      done = λ n h lt. absurd (not-suc-le-zero lt);
      rest = λ n h. zeros 288 n;
    }

-- ---- one generation more
abbrev pub put_four : List ℕ → ℕ → Four → List ℕ
put_four r n l = apart (apart (apart (apart r n (pair_bytes l.x0)) (n + 16) (pair_bytes l.x1)) (n + 1) (pair_bytes l.x2)) (n + 17) (pair_bytes l.x3)

-- which generation's sub-block, and which of its four, has its byte at place n
by_2 : (j k t : ℕ) → t < 2 → j ≡ k * 2 + t → j % 2 ≡ t
by_2 j k t h e = omega arith

by_4 : (j k t : ℕ) → t < 4 → j ≡ k * 4 + t → (k ≡ j / 4) × (t ≡ j % 4)
by_4 j k t h e = (omega arith, omega arith)

by_16 : (j k t : ℕ) → t < 16 → j ≡ k * 16 + t → (j / 16 ≡ k) × (j % 16 ≡ t)
by_16 j k t h e = (omega arith, omega arith)

place : (n i u v : ℕ) → i < 8 → u < 2 → v < 2 → n % 32 ≡ i * 2 + (u * 16 + v)
    → (i ≡ (n % 16 * 2 + n / 16 % 2) / 4) × (v * 2 + u ≡ (n % 16 * 2 + n / 16 % 2) % 4)
place n i u v low hu hv e =
    let s = by_16 n (n / 32 * 2 + u) (i * 2 + v) (omega arith) (omega arith) in
    let odd = by_2 (n / 16) (n / 32) u hu s.0 in
    by_4 (n % 16 * 2 + n / 16 % 2) i (v * 2 + u) (omega arith) (sum (n % 16) (n / 16 % 2) i u v s.1 odd)
  where
    sum : (x y i u v : ℕ) → x ≡ i * 2 + v → y ≡ u → x * 2 + y ≡ i * 4 + (v * 2 + u)
    sum x y i u v ex ey = omega arith

module _ (key : List ℕ) (i : ℕ) (r : List ℕ) (l : Four) (low : i < 8) where
  abbrev r1 : List ℕ
  r1 = apart r (i * 2) (pair_bytes l.x0)

  abbrev r2 : List ℕ
  r2 = apart r1 (i * 2 + 16) (pair_bytes l.x1)

  abbrev r3 : List ℕ
  r3 = apart r2 (i * 2 + 1) (pair_bytes l.x2)

  long1 : length r1 ≡ length r
  long1 = apart_long r (i * 2) (pair_bytes l.x0)

  long2 : length r2 ≡ length r
  long2 = apart_long r1 (i * 2 + 16) (pair_bytes l.x1) ∙ long1

  long3 : length r3 ≡ length r
  long3 = apart_long r2 (i * 2 + 1) (pair_bytes l.x2) ∙ long2

  four_long : length (put_four r (i * 2) l) ≡ length r
  four_long = apart_long r3 (i * 2 + 17) (pair_bytes l.x3) ∙ long3

  four_behind : (n : ℕ) → 256 ≤ n → get_or (put_four r (i * 2) l) n 0 ≡ get_or r n 0
  four_behind n h =
      put_behind r3 (i * 2 + 17) (pair_bytes l.x3) refl (omega arith) n h
      ∙ put_behind r2 (i * 2 + 1) (pair_bytes l.x2) refl (omega arith) n h
      ∙ put_behind r1 (i * 2 + 16) (pair_bytes l.x1) refl (omega arith) n h
      ∙ put_behind r (i * 2) (pair_bytes l.x0) refl (omega arith) n h

  module _ (is_l : four_halves l ≡ (generation key (suc i)).L) where
    -- byte n, of q(4i + 2v + u)
    byte : (u v n : ℕ) → T (ltb u 2) → T (ltb v 2) → n < 256 → n % 32 ≡ i * 2 + (u * 16 + v)
        → get_or (get_or (four_halves l) (v * 2 + u) []) (n / 32) 0 ≡ get_or (round_keys key) n 0
    unfolding q
    byte u v n hu hv hn e =
        let w = place n i u v low (lit< hu) (lit< hv) e in
        ap (λ (z : List (List ℕ)). get_or (get_or z (v * 2 + u) []) (n / 32) 0) is_l
        ∙ ap₂ (λ (x y : ℕ). get_or (get_or (generation key (suc x)).L y []) (n / 32) 0) w.0 w.1
        ∙ round_keys_at key n hn

    four_done : ((n : ℕ) → n < 256 → n % 16 / 2 < i → get_or r n 0 ≡ get_or (round_keys key) n 0) → length r ≡ 288
        → (n : ℕ) → n < 256 → n % 16 / 2 < i + 1 → get_or (put_four r (i * 2) l) n 0 ≡ get_or (round_keys key) n 0
    four_done done long n h lt =
        let v : ℕ = get_or (round_keys key) n 0 in
        put_at r3 (i * 2 + 17) (pair_bytes l.x3) refl (omega arith) n v (omega (arith, long3)) h (λ e. byte 1 1 n tt tt h (omega arith)) (λ n3.
        put_at r2 (i * 2 + 1) (pair_bytes l.x2) refl (omega arith) n v (omega (arith, long2)) h (λ e. byte 0 1 n tt tt h (omega arith)) (λ n2.
        put_at r1 (i * 2 + 16) (pair_bytes l.x1) refl (omega arith) n v (omega (arith, long1)) h (λ e. byte 1 0 n tt tt h (omega arith)) (λ n1.
        put_at r (i * 2) (pair_bytes l.x0) refl (omega arith) n v (omega arith) h (λ e. byte 0 0 n tt tt h (omega arith)) (λ n0. done n h (omega arith)))))

pub generating_step : (key : List ℕ) (i : ℕ) (y l y' l' : Four) (r r' : List ℕ) → Generating key i y l r → i < 8
    → four_halves y' ≡ Y (four_halves y) → four_halves l' ≡ L (four_halves y') (pair_bytes l.x3) → r' ≡ put_four r (i * 2) l'
    → Generating key (i + 1) y' l' r'
unfolding generation G
generating_step key i y l y' l' r r' w h ey el er =
    let nextY : four_halves y' ≡ (generation key (suc i)).Y = ey ∙ ap Y w.is_y in
    let nextL : four_halves l' ≡ (generation key (suc i)).L = el ∙ ap₂ (λ (a b : List (List ℕ)). L a (get_or b 3 [])) nextY w.is_l in
    let e : suc i ≡ i + 1 = omega arith in
    subst (Generating key (i + 1) y' l') (sym er)
    (record {
      is_y = nextY ∙ ap (λ (n : ℕ). (generation key n).Y) e;
      is_l = nextL ∙ ap (λ (n : ℕ). (generation key n).L) e;
      long = four_long key i r l' h ∙ w.long;
      done = four_done key i r l' h nextL w.done w.long;
      rest = λ n k. four_behind key i r l' h n k ∙ w.rest n k;
    })

pub generating_end : (key : List ℕ) (i : ℕ) (y l : Four) (r : List ℕ) → Generating key i y l r → 8 ≤ i → r ≡ tab 288 (λ n. get_or (round_keys key) n 0)
generating_end key i y l r w h = tab_is 288 (λ n. get_or (round_keys key) n 0) 0 r w.long (λ n k. by_place n (dec_lt n 256))
  where
    by_place : (n : ℕ) → Dec (n < 256) → get_or r n 0 ≡ get_or (round_keys key) n 0
    by_place n (yes k) = w.done n k (omega arith)
    by_place n (no k) = let b : 256 ≤ n = omega arith in w.rest n b ∙ sym (round_keys_behind key n b)
