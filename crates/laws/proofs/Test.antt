-- Tests that antt computes, and what is proved where one passes: both of two, each place of two lists, the same list.
use mathlib.Core.Path.{◌≡◌, refl, sym, ap, ap₂, ◌∙◌}
use mathlib.Core.Bool.{Bool, true, false, ◌&&◌, false≢true}
use mathlib.Core.List.{List, [], ◌∷◌, map}
use Prim.Native.Nat.{ℕ}
use lib.Dec.{T, eqb, eqb→eq}

abbrev pub both : Bool → Bool → Bool
both true b = b
both false b = false

pub both_left : (a b : Bool) → T (both a b) → T a
both_left true b t = tt
both_left false b t = t

pub both_right : (a b : Bool) → T (both a b) → T b
both_right true b t = t
both_right false b t = absurd t

pub and_left : (a b : Bool) → (a && b) ≡ true → a ≡ true
and_left true b e = refl
and_left false b e = e

pub and_right : (a b : Bool) → (a && b) ≡ true → b ≡ true
and_right true b e = e
and_right false b e = absurd (false≢true e)

pub fails : (b : Bool) → (b ≡ true → ⊥) → b ≡ false
fails true n = absurd (n refl)
fails false n = refl

-- two lists, place by place
abbrev pub zip_test : {A : Type 0} → (A → A → Bool) → List A → List A → Bool
zip_test t [] [] = true
zip_test t [] (y ∷ ys) = false
zip_test t (x ∷ xs) [] = false
zip_test t (x ∷ xs) (y ∷ ys) = both (t x y) (zip_test t xs ys)

module _ {A B : Type 0} (t : A → A → Bool) (f : A → B) (equal : (x y : A) → T (t x y) → f x ≡ f y) where
  pub zip_equal : (xs ys : List A) → T (zip_test t xs ys) → map f xs ≡ map f ys
  zip_equal [] [] u = refl
  zip_equal [] (y ∷ ys) u = absurd u
  zip_equal (x ∷ xs) [] u = absurd u
  zip_equal (x ∷ xs) (y ∷ ys) u =
      ap₂ (λ (h : B) (l : List B). h ∷ l) (equal x y (both_left (t x y) (zip_test t xs ys) u))
      (zip_equal xs ys (both_right (t x y) (zip_test t xs ys) u))

abbrev pub same : List ℕ → List ℕ → Bool
same = zip_test eqb

map_id : (xs : List ℕ) → map (λ x. x) xs ≡ xs
map_id [] = refl
map_id (x ∷ xs) = ap (λ (l : List ℕ). x ∷ l) (map_id xs)

pub same_equal : (xs ys : List ℕ) → T (same xs ys) → xs ≡ ys
same_equal xs ys u = sym (map_id xs) ∙ zip_equal eqb (λ x. x) eqb→eq xs ys u ∙ map_id ys
