-- The loop that collects the keys, and what is known of each: that it is a slot's, which slots have one, and that none stands twice.
use mathlib.Core.Path.{◌≡◌, refl, sym, ap, ◌∙◌, subst}
use mathlib.Core.Bool.{Bool, true, false}
use mathlib.Core.List.{List, [], ◌∷◌, ◌++◌, append-nil}
use Prim.Native.Nat.{ℕ, zero, suc, ◌+◌, ◌/◌, ◌%◌, ◌≤◌, ◌<◌}
use native.Mathlib.Omega.{arith}
use native.Mathlib.Numerals.{add-one}
use native.Mathlib.Nat.{le_of_suc-le-suc, not-suc-le-zero}
use lib.Dec.{eqb, ltb}
use lib.ListN.{length, get_or, set, take, drop, length-set}
use lib.Seq.{append_snoc, length-take-le, take_at, take-suc-set, take-set-le}
use borrow.Author.Tests.{eq-eqb, eqb-true, lt-ltb, le-ltb, ltb-true, ltb-false}
use Rattle.laws.specs.Choice.{choose}
use Rattle.sorting.specs.Sorted.{times, Sorted}
use Rattle.card_slots.specs.Card.{slot, slots}
use Rattle.card_keys.specs.code.Keys.{key_of, keys_from, InOrder}
use Rattle.card_slots.proofs.Slots.{slots_next, slots_end}

-- ---- the loop: the keys of the slots before i are collected
pub record Collected (card : List ℕ) (n : ℕ) (keys : List ℕ) (filled i : ℕ) : Type 0 where
  pub all : n ≡ length card / 16
  pub inside : i ≤ n
  pub long : length keys ≡ 256
  pub low : filled ≤ i
  pub still : take filled keys ++ keys_from i (drop i (slots card)) ≡ keys_from 0 (slots card)

module _ {card : List ℕ} {n : ℕ} {keys : List ℕ} {filled i : ℕ} (w : Collected card n keys filled i) where
  module _ (few : n ≤ 256) (h : i < n) {k : ℕ} {s : List ℕ} (l : s ≡ slot card i) (e : k ≡ key_of s i) where
    key_is : k ≡ key_of (slot card i) i
    key_is = e ∙ ap (λ (x : List ℕ). key_of x i) l

    behind : List ℕ
    behind = keys_from (i + 1) (drop (i + 1) (slots card))

    from_here : keys_from i (drop i (slots card)) ≡ choose (ltb k 256) behind (k ∷ behind)
    unfolding behind
    from_here =
        let a = w.all in
        ap (keys_from i) (slots_next card i (omega arith)) ∙ rw (← key_is, add-one)

    pub collected_none : k < 256 → {m : ℕ} → m ≡ filled → Collected card n (set keys filled k) m (i + 1)
    unfolding behind
    collected_none u g =
        let a = w.low in
        record {
          all = w.all;
          inside = omega arith;
          long = length-set keys filled k ∙ w.long;
          low = omega arith;
          still =
              ap (λ (m : ℕ). take m (set keys filled k) ++ behind) g
              ∙ ap (λ (x : List ℕ). x ++ behind) (take-set-le filled keys filled k (omega arith))
              ∙ ap (λ (x : List ℕ). take filled keys ++ x) (sym (from_here ∙ ap (λ (b : Bool). choose b behind (k ∷ behind)) (lt-ltb k 256 u)))
              ∙ w.still;
        }

    pub collected_one : 256 ≤ k → {m : ℕ} → m ≡ filled + 1 → Collected card n (set keys filled k) m (i + 1)
    unfolding behind
    collected_one u {m} g =
        let a = w.low in
        let b = w.long in
        let f : m ≡ suc filled = omega arith in
        record {
          all = w.all;
          inside = omega arith;
          long = length-set keys filled k ∙ w.long;
          low = omega arith;
          still =
              ap (λ (m : ℕ). take m (set keys filled k) ++ behind) f
              ∙ ap (λ (x : List ℕ). x ++ behind) (take-suc-set keys filled k (omega arith))
              ∙ append_snoc (take filled keys) k behind
              ∙ ap (λ (x : List ℕ). take filled keys ++ x) (sym (from_here ∙ ap (λ (b : Bool). choose b behind (k ∷ behind)) (le-ltb k 256 u)))
              ∙ w.still;
        }

    -- it is a slot's key exactly if it is 256 or more
    pub collected_next : {m : ℕ} → (256 ≤ k → m ≡ filled + 1) → (k < 256 → m ≡ filled) → Collected card n (set keys filled k) m (i + 1)
    collected_next {m} some none = go (ltb k 256) refl
      where
        go : (t : Bool) → ltb k 256 ≡ t → Collected card n (set keys filled k) m (i + 1)
        go true f = let u = ltb-true k 256 f in collected_none u (none u)
        go false f = let u = ltb-false k 256 f in collected_one u (some u)

  pub collected_end : n ≤ i → take filled keys ≡ keys_from 0 (slots card)
  collected_end h =
      let a = w.all in
      sym (ap (λ (ss : List (List ℕ)). take filled keys ++ keys_from i ss) (slots_end card i (omega arith)) ∙ append-nil (take filled keys)) ∙ w.still

-- ---- which keys there are, of slots that are numbered from b on
pub key_times : (b : ℕ) (ss : List (List ℕ)) (i : ℕ) → i < length ss → 256 ≤ key_of (get_or ss i []) (b + i)
    → 1 ≤ times (key_of (get_or ss i []) (b + i)) (keys_from b ss)
key_times b [] i h l = absurd (not-suc-le-zero h)
key_times b (s ∷ ss) zero h l =
    let z : b + 0 ≡ b = omega arith in
    subst (λ (m : ℕ). 1 ≤ times (key_of s m) (keys_from b (s ∷ ss))) (sym z)
    (rw (le-ltb (key_of s b) 256 (omega arith), eq-eqb (key_of s b) (key_of s b) refl) (omega arith))
key_times b (s ∷ ss) (suc i) h l =
    let z : b + suc i ≡ suc b + i = omega arith in
    let k = key_of (get_or ss i []) (suc b + i) in
    subst (λ (m : ℕ). 1 ≤ times (key_of (get_or ss i []) m) (keys_from b (s ∷ ss))) (sym z)
    (by_test (ltb (key_of s b) 256)
    (key_times (suc b) ss i (le_of_suc-le-suc h) (subst (λ (m : ℕ). 256 ≤ key_of (get_or ss i []) m) z l)))
  where
    by_test : (t : Bool) → 1 ≤ times (key_of (get_or ss i []) (suc b + i)) (keys_from (suc b) ss)
        → 1 ≤ times (key_of (get_or ss i []) (suc b + i)) (choose t (keys_from (suc b) ss) (key_of s b ∷ keys_from (suc b) ss))
    by_test true u = u
    by_test false u = omega arith

-- x is the key of slot i
abbrev pub KeyOf : ℕ → ℕ → List (List ℕ) → ℕ → Type 0
KeyOf x b ss i = (i < length ss) × (x ≡ key_of (get_or ss i []) (b + i)) × (256 ≤ x)

pub times_key : (x b : ℕ) (ss : List (List ℕ)) → 1 ≤ times x (keys_from b ss) → (i : ℕ) × KeyOf x b ss i
times_key x b [] h = absurd (not-suc-le-zero h)
times_key x b (s ∷ ss) h = by_test (ltb (key_of s b) 256) refl (λ u. later (times_key x (suc b) ss u)) h
  where
    later : (i : ℕ) × KeyOf x (suc b) ss i → (i : ℕ) × KeyOf x b (s ∷ ss) i
    later r =
        let z : suc b + r.0 ≡ b + suc r.0 = omega arith in
        (suc r.0, (omega (arith, r.1.0), r.1.1 ∙ ap (key_of (get_or ss r.0 [])) z, r.1.2))

    here : (1 ≤ times x (keys_from (suc b) ss) → (i : ℕ) × KeyOf x b (s ∷ ss) i) → 256 ≤ key_of s b → (t : Bool) → eqb x (key_of s b) ≡ t
        → 1 ≤ choose t 1 0 + times x (keys_from (suc b) ss) → (i : ℕ) × KeyOf x b (s ∷ ss) i
    here r l true e u =
        let v = eqb-true x (key_of s b) e in
        let z : b ≡ b + 0 = omega arith in
        (0, (omega arith, v ∙ ap (key_of s) z, omega arith))
    here r l false e u = r (omega arith)

    by_test : (t : Bool) → ltb (key_of s b) 256 ≡ t → (1 ≤ times x (keys_from (suc b) ss) → (i : ℕ) × KeyOf x b (s ∷ ss) i)
        → 1 ≤ times x (choose t (keys_from (suc b) ss) (key_of s b ∷ keys_from (suc b) ss))
        → (i : ℕ) × KeyOf x b (s ∷ ss) i
    by_test true e r u = r u
    by_test false e r u = here r (ltb-false (key_of s b) 256 e) (eqb x (key_of s b)) refl u

-- the slot's number is the key's last byte
pub key_slot : (s : List ℕ) (i : ℕ) → i < 256 → key_of s i % 256 ≡ i
key_slot s i h = omega arith

pub key_once : (x b : ℕ) (ss : List (List ℕ)) → b + length ss ≤ 256 → times x (keys_from b ss) ≤ 1
key_once x b [] h = omega arith
key_once x b (s ∷ ss) h = by_test (ltb (key_of s b) 256) (key_once x (suc b) ss (omega arith))
  where
    later : (t : Bool) → eqb x (key_of s b) ≡ t → (m : ℕ) → times x (keys_from (suc b) ss) ≡ m → m ≤ 1 → choose t 1 0 + m ≤ 1
    later false e m f u = omega arith
    later true e zero f u = omega arith
    later true e (suc m) f u =
        let v = eqb-true x (key_of s b) e in
        let r = times_key x (suc b) ss (omega arith) in
        let p = key_slot s b (omega arith) in
        let q = key_slot (get_or ss r.0 []) (suc b + r.0) (omega (arith, r.1.0)) in
        let z : x % 256 ≡ b = ap (λ (k : ℕ). k % 256) v ∙ p in
        let y : x % 256 ≡ suc b + r.0 = ap (λ (k : ℕ). k % 256) r.1.1 ∙ q in
        absurd (omega arith)

    by_test : (t : Bool) → times x (keys_from (suc b) ss) ≤ 1 → times x (choose t (keys_from (suc b) ss) (key_of s b ∷ keys_from (suc b) ss)) ≤ 1
    by_test true u = u
    by_test false u = later (eqb x (key_of s b)) refl (times x (keys_from (suc b) ss)) refl u

-- ---- sorted
pub in_order : (card keys s behind : List ℕ) (n m : ℕ) → m ≡ n → n ≤ 256 → length keys ≡ 256 → take n keys ≡ keys_from 0 (slots card)
    → length s ≡ length (take m keys) → Sorted (take m keys) s → InOrder card (s ++ behind) n
in_order card keys s behind n m z few long e f w =
    let l : length s ≡ n = f ∙ length-take-le m keys (omega arith) ∙ z in
    record {
      few = few;
      sorted =
          subst (λ (x : List ℕ). Sorted (keys_from 0 (slots card)) x) (sym (take_at s behind n l))
          (subst (λ (x : List ℕ). Sorted x s) (ap (λ (k : ℕ). take k keys) z ∙ e) w);
    }
