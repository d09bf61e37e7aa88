-- Xor on lists, n places of them.
use mathlib.Core.Path.{◌≡◌, sym, ap, ◌∙◌}
use mathlib.Core.List.{List, ◌∷◌}
use Prim.Native.Nat.{ℕ, suc, ◌<◌}
use lib.ListN.{length, get_or, replicate, get_or-replicate}
use lib.Bits.{bit_xor, xor_comm, xor_lt}
use Rattle.laws.specs.Places.{Each}
use Rattle.laws.specs.Bytes.{Word, Bytes, xor_l}
use Rattle.laws.proofs.Xor.{xor_cancel_r}
use Rattle.laws.proofs.Places.{length-tab, get_or-tab, tab_is, tab_equal, tab_from-suc, each_tab}

abbrev pub zero_list : ℕ → List ℕ
zero_list n = replicate n 0

pub length-xor_l : (n : ℕ) (a b : List ℕ) → length (xor_l n a b) ≡ n
length-xor_l n a b = length-tab n (λ j. bit_xor (get_or a j 0) (get_or b j 0))

pub get_or-xor_l : (n : ℕ) (a b : List ℕ) (j : ℕ) → j < n → get_or (xor_l n a b) j 0 ≡ bit_xor (get_or a j 0) (get_or b j 0)
get_or-xor_l n a b j h = get_or-tab n (λ i. bit_xor (get_or a i 0) (get_or b i 0)) j 0 h

pub xor_l-cons : (n x y : ℕ) (a b : List ℕ) → xor_l (suc n) (x ∷ a) (y ∷ b) ≡ bit_xor x y ∷ xor_l n a b
xor_l-cons n x y a b = ap (λ (l : List ℕ). bit_xor x y ∷ l) (tab_from-suc (λ j. bit_xor (get_or (x ∷ a) j 0) (get_or (y ∷ b) j 0)) 0 n)

pub xor_l_words : (w n : ℕ) (a b : List ℕ) → Each (Word w) 0 n a → Each (Word w) 0 n b → Each (Word w) 0 n (xor_l n a b)
xor_l_words w n a b h l =
    each_tab (Word w) 0 n (λ j. bit_xor (get_or a j 0) (get_or b j 0)) (λ j k. xor_lt w (get_or a j 0) (get_or b j 0) (h.each j k) (l.each j k))

pub xor_l_bytes : (n : ℕ) (a b : List ℕ) → Bytes n a → Bytes n b → Bytes n (xor_l n a b)
xor_l_bytes = xor_l_words 8

pub xor_l_comm : (n : ℕ) (a b : List ℕ) → xor_l n a b ≡ xor_l n b a
xor_l_comm n a b = tab_equal n _ _ 0 (λ j h. xor_comm (get_or a j 0) (get_or b j 0))

pub xor_l_cancel_r : (n : ℕ) (a b : List ℕ) → length a ≡ n → xor_l n (xor_l n a b) b ≡ a
xor_l_cancel_r n a b e =
    sym (tab_is n (λ j. bit_xor (get_or (xor_l n a b) j 0) (get_or b j 0)) 0 a e
    (λ j h. sym (ap (λ (x : ℕ). bit_xor x (get_or b j 0)) (get_or-xor_l n a b j h) ∙ xor_cancel_r (get_or a j 0) (get_or b j 0))))

pub xor_l_zeros_l : (n : ℕ) (a : List ℕ) → length a ≡ n → xor_l n (zero_list n) a ≡ a
xor_l_zeros_l n a e =
    sym (tab_is n (λ j. bit_xor (get_or (zero_list n) j 0) (get_or a j 0)) 0 a e
    (λ j h. sym (ap (λ (x : ℕ). bit_xor x (get_or a j 0)) (get_or-replicate n j 0 0 h))))
