-- An identity of and, or, xor and not on words holds as soon as it holds on single bits: 2^n cases for n words, which antt computes. It is stated over expressions,
-- and `eval w ws e` computes to the words' own bit_and, bit_or, bit_xor and (2 ^ w - 1) - x.
use mathlib.Core.Path.{◌≡◌, sym, ap, ap₂, ◌∙◌, subst}
use mathlib.Core.Bool.{Bool}
use mathlib.Core.List.{List, [], ◌∷◌, map}
use Prim.Native.Nat.{ℕ, zero, suc, ◌-◌, ◌/◌, ◌%◌, ◌^◌, ◌<◌, ◌*◌}
use native.Mathlib.Nat.{mod-lt, zero-lt-suc, pow-suc, div-lt_iff_lt-mul}
use native.Mathlib.Omega.{arith}
use lib.Dec.{T, eqb, eqb→eq}
use lib.Arith.{lt-one}
use lib.Pow.{ones_sub-lt}
use lib.ListN.{length, get_or, length-map, get_or-map}
use lib.Bits.{bit_and, bit_or, bit_xor, and_shr, or_shr, xor_shr, and_mod, or_mod, xor_mod, and_lt, or_lt, xor_lt}
use Rattle.laws.proofs.Test.{both, both_left, both_right}
use Rattle.laws.proofs.Xor.{not_digit}
use Rattle.laws.proofs.Words.{Words, word_at_lem}

pub data Expr : Type 0 where
  var : ℕ → Expr
  not : Expr → Expr
  and : Expr → Expr → Expr
  or : Expr → Expr → Expr
  xor : Expr → Expr → Expr

abbrev pub eval : ℕ → List ℕ → Expr → ℕ
eval w ws (var i) = get_or ws i 0
eval w ws (not e) = (2 ^ w - 1) - eval w ws e
eval w ws (and e f) = bit_and (eval w ws e) (eval w ws f)
eval w ws (or e f) = bit_or (eval w ws e) (eval w ws f)
eval w ws (xor e f) = bit_xor (eval w ws e) (eval w ws f)

-- ---- a test at each choice of n bits
abbrev pub all_bits : ℕ → (List ℕ → Bool) → Bool
all_bits zero f = f []
all_bits (suc n) f = both (all_bits n (λ bs. f (0 ∷ bs))) (all_bits n (λ bs. f (1 ∷ bs)))

all_bits_lem : (n : ℕ) (f : List ℕ → Bool) → T (all_bits n f) → (bs : List ℕ) → length bs ≡ n → Words 1 bs → T (f bs)
all_bits_lem zero f t [] e h = t
all_bits_lem zero f t (b ∷ bs) e h = absurd (omega (arith, e))
all_bits_lem (suc n) f t [] e h = absurd (omega (arith, e))
all_bits_lem (suc n) f t (zero ∷ bs) e h = all_bits_lem n (λ l. f (0 ∷ l)) (both_left (all_bits n (λ l. f (0 ∷ l))) (all_bits n (λ l. f (1 ∷ l))) t) bs (omega (arith, e)) h.1
all_bits_lem (suc n) f t (suc zero ∷ bs) e h = all_bits_lem n (λ l. f (1 ∷ l)) (both_right (all_bits n (λ l. f (0 ∷ l))) (all_bits n (λ l. f (1 ∷ l))) t) bs (omega (arith, e)) h.1
all_bits_lem (suc n) f t (suc (suc b) ∷ bs) e h = absurd (not_digit h.0)

-- ---- a word is its half and its last digit, and so is an expression's value
half_words : (w : ℕ) (ws : List ℕ) → Words (suc w) ws → Words w (map (λ x. x / 2) ws)
half_words w [] h = tt
half_words w (x ∷ xs) h = ((div-lt_iff_lt-mul (zero-lt-suc 1)).1 (subst (λ (n : ℕ). x < n) (pow-suc 2 w) h.0), half_words w xs h.1)

odd_words : (ws : List ℕ) → Words 1 (map (λ x. x % 2) ws)
odd_words [] = tt
odd_words (x ∷ xs) = (mod-lt x (zero-lt-suc 1), odd_words xs)

pub eval_lt : (w : ℕ) (ws : List ℕ) (e : Expr) → Words w ws → eval w ws e < 2 ^ w
eval_lt w ws (var i) h = word_at_lem w ws i h
eval_lt w ws (not e) h = ones_sub-lt w (eval w ws e)
eval_lt w ws (and e f) h = and_lt w (eval w ws e) (eval w ws f) (eval_lt w ws e h) (eval_lt w ws f h)
eval_lt w ws (or e f) h = or_lt w (eval w ws e) (eval w ws f) (eval_lt w ws e h) (eval_lt w ws f h)
eval_lt w ws (xor e f) h = xor_lt w (eval w ws e) (eval w ws f) (eval_lt w ws e h) (eval_lt w ws f h)

not_half : (p x : ℕ) → x < p * 2 → ((p * 2 - 1) - x) / 2 ≡ (p - 1) - x / 2
not_half p x h = omega arith

not_odd : (p x : ℕ) → x < p * 2 → ((p * 2 - 1) - x) % 2 ≡ (2 ^ 1 - 1) - x % 2
not_odd p x h = omega arith

eval_half : (w : ℕ) (ws : List ℕ) (e : Expr) → Words (suc w) ws → eval (suc w) ws e / 2 ≡ eval w (map (λ x. x / 2) ws) e
eval_half w ws (var i) h = sym (get_or-map (λ x. x / 2) ws i 0)
eval_half w ws (not e) h =
    ap (λ (n : ℕ). ((n - 1) - eval (suc w) ws e) / 2) (pow-suc 2 w)
    ∙ not_half (2 ^ w) (eval (suc w) ws e) (subst (λ (n : ℕ). eval (suc w) ws e < n) (pow-suc 2 w) (eval_lt (suc w) ws e h))
    ∙ ap (λ (n : ℕ). (2 ^ w - 1) - n) (eval_half w ws e h)
eval_half w ws (and e f) h = and_shr (eval (suc w) ws e) (eval (suc w) ws f) 1 ∙ ap₂ bit_and (eval_half w ws e h) (eval_half w ws f h)
eval_half w ws (or e f) h = or_shr (eval (suc w) ws e) (eval (suc w) ws f) 1 ∙ ap₂ bit_or (eval_half w ws e h) (eval_half w ws f h)
eval_half w ws (xor e f) h = xor_shr (eval (suc w) ws e) (eval (suc w) ws f) 1 ∙ ap₂ bit_xor (eval_half w ws e h) (eval_half w ws f h)

eval_odd : (w : ℕ) (ws : List ℕ) (e : Expr) → Words (suc w) ws → eval (suc w) ws e % 2 ≡ eval 1 (map (λ x. x % 2) ws) e
eval_odd w ws (var i) h = sym (get_or-map (λ x. x % 2) ws i 0)
eval_odd w ws (not e) h =
    ap (λ (n : ℕ). ((n - 1) - eval (suc w) ws e) % 2) (pow-suc 2 w)
    ∙ not_odd (2 ^ w) (eval (suc w) ws e) (subst (λ (n : ℕ). eval (suc w) ws e < n) (pow-suc 2 w) (eval_lt (suc w) ws e h))
    ∙ ap (λ (n : ℕ). (2 ^ 1 - 1) - n) (eval_odd w ws e h)
eval_odd w ws (and e f) h = and_mod (eval (suc w) ws e) (eval (suc w) ws f) 1 ∙ ap₂ bit_and (eval_odd w ws e h) (eval_odd w ws f h)
eval_odd w ws (or e f) h = or_mod (eval (suc w) ws e) (eval (suc w) ws f) 1 ∙ ap₂ bit_or (eval_odd w ws e h) (eval_odd w ws f h)
eval_odd w ws (xor e f) h = xor_mod (eval (suc w) ws e) (eval (suc w) ws f) 1 ∙ ap₂ bit_xor (eval_odd w ws e h) (eval_odd w ws f h)

same_digits : (a b : ℕ) → a / 2 ≡ b / 2 → a % 2 ≡ b % 2 → a ≡ b
same_digits a b p q = omega arith

-- ---- the law
abbrev pub agree : ℕ → Expr → Expr → Bool
agree n e f = all_bits n (λ bs. eqb (eval 1 bs e) (eval 1 bs f))

pub by_bits : (e f : Expr) (w : ℕ) (ws : List ℕ) → T (agree (length ws) e f) → Words w ws → eval w ws e ≡ eval w ws f
by_bits e f zero ws t h = lt-one (eval_lt zero ws e h) ∙ sym (lt-one (eval_lt zero ws f h))
by_bits e f (suc w) ws t h =
    let hs : List ℕ = map (λ x. x / 2) ws in
    let os : List ℕ = map (λ x. x % 2) ws in
    same_digits (eval (suc w) ws e) (eval (suc w) ws f)
    (eval_half w ws e h
    ∙ by_bits e f w hs (subst (λ (n : ℕ). T (agree n e f)) (sym (length-map ws (λ x. x / 2))) t) (half_words w ws h)
    ∙ sym (eval_half w ws f h))
    (eval_odd w ws e h
    ∙ eqb→eq (eval 1 os e) (eval 1 os f) (all_bits_lem (length ws) (λ bs. eqb (eval 1 bs e) (eval 1 bs f)) t os (length-map ws (λ x. x % 2)) (odd_words ws))
    ∙ sym (eval_odd w ws f h))
