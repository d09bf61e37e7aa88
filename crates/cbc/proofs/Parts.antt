-- CBC of a list of blocks in two parts, over any block functions, and the loop that goes block by block.
use mathlib.Core.Path.{◌≡◌, refl, sym, ap, ap₂, ◌∙◌}
use mathlib.Core.Bool.{Bool, true, false}
use mathlib.Core.List.{List, [], ◌∷◌, ◌++◌, append_assoc}
use Prim.Native.Nat.{ℕ, zero, suc, ◌+◌, ◌*◌, ◌≤◌}
use native.Mathlib.Omega.{arith}
use native.Mathlib.Nat.{zero-add}
use lib.Dec.{eqb}
use lib.ListN.{length, take, drop, length-drop}
use lib.Seq.{take-append-le, drop-append-le, drop-drop}
use Rattle.laws.specs.Choice.{choose}
use Rattle.laws.specs.Bytes.{xor_l}
use Rattle.cbc.specs.Cbc.{cbc_encryption, cbc_decryption, last_or, out, chain, join, blocks}

-- ---- lists of blocks
pub join-append : (a b : List (List ℕ)) → join (a ++ b) ≡ join a ++ join b
join-append [] b = refl
join-append (x ∷ a) b = ap (λ (l : List ℕ). x ++ l) (join-append a b) ∙ sym (append_assoc x (join a) (join b))

pub last_append : (c : List ℕ) (a b : List (List ℕ)) → last_or c (a ++ b) ≡ last_or (last_or c a) b
last_append c [] b = refl
last_append c (x ∷ a) b = last_append x a b

-- the first n + m blocks are the first n, and m behind them
pub blocks_add : (n m : ℕ) (l : List ℕ) → blocks (n + m) l ≡ blocks n l ++ blocks m (drop (16 * n) l)
blocks_add zero m l = rw zero-add
blocks_add (suc n) m l =
    let e : suc n + m ≡ suc (n + m) = omega arith in
    let f : 16 + 16 * n ≡ 16 * suc n = omega arith in
    ap (λ (k : ℕ). blocks k l) e
    ∙ ap (λ (r : List (List ℕ)). take 16 l ∷ r)
    (blocks_add n m (drop 16 l)
    ∙ ap (λ (r : List ℕ). blocks n (drop 16 l) ++ blocks m r) (drop-drop (16 * n) 16 l ∙ ap (λ (k : ℕ). drop k l) f))

-- blocks that lie in the first of two lists
pub blocks-append : (n : ℕ) (a b : List ℕ) → 16 * n ≤ length a → blocks n (a ++ b) ≡ blocks n a
blocks-append zero a b h = refl
blocks-append (suc n) a b h =
    let d = length-drop 16 a in
    ap₂ (λ (x : List ℕ) (r : List (List ℕ)). x ∷ r) (take-append-le 16 a b (omega arith))
    (ap (λ (r : List ℕ). blocks n r) (drop-append-le 16 a b (omega arith)) ∙ blocks-append n (drop 16 a) b (omega arith))

-- ---- CBC of two parts: the second goes on from the chain block behind the first
module _ (E D : List ℕ → List ℕ) where
  encryption_append : (c : List ℕ) (a b : List (List ℕ)) → cbc_encryption E c (a ++ b) ≡ cbc_encryption E c a ++ cbc_encryption E (last_or c (cbc_encryption E c a)) b
  encryption_append c [] b = refl
  encryption_append c (x ∷ a) b = ap (λ (r : List (List ℕ)). E (xor_l 16 x c) ∷ r) (encryption_append (E (xor_l 16 x c)) a b)

  decryption_append : (c : List ℕ) (a b : List (List ℕ)) → cbc_decryption D c (a ++ b) ≡ cbc_decryption D c a ++ cbc_decryption D (last_or c a) b
  decryption_append c [] b = refl
  decryption_append c (x ∷ a) b = ap (λ (r : List (List ℕ)). xor_l 16 (D x) c ∷ r) (decryption_append x a b)

  pub out-append : (d : ℕ) (c : List ℕ) (a b : List (List ℕ)) → out E D d c (a ++ b) ≡ out E D d c a ++ out E D d (chain E d c a) b
  unfolding out chain
  out-append d c a b = go (eqb d 1)
    where
      go : (t : Bool) → choose t (cbc_encryption E c (a ++ b)) (cbc_decryption D c (a ++ b))
          ≡ choose t (cbc_encryption E c a) (cbc_decryption D c a)
          ++ choose t (cbc_encryption E (choose t (last_or c (cbc_encryption E c a)) (last_or c a)) b) (cbc_decryption D (choose t (last_or c (cbc_encryption E c a)) (last_or c a)) b)
      go true = encryption_append c a b
      go false = decryption_append c a b

  pub chain-append : (d : ℕ) (c : List ℕ) (a b : List (List ℕ)) → chain E d c (a ++ b) ≡ chain E d (chain E d c a) b
  unfolding chain
  chain-append d c a b = go (eqb d 1)
    where
      go : (t : Bool) → choose t (last_or c (cbc_encryption E c (a ++ b))) (last_or c (a ++ b))
          ≡ choose t (last_or (choose t (last_or c (cbc_encryption E c a)) (last_or c a)) (cbc_encryption E (choose t (last_or c (cbc_encryption E c a)) (last_or c a)) b))
          (last_or (choose t (last_or c (cbc_encryption E c a)) (last_or c a)) b)
      go true = ap (last_or c) (encryption_append c a b) ∙ last_append c (cbc_encryption E c a) (cbc_encryption E (last_or c (cbc_encryption E c a)) b)
      go false = last_append c a b

  pub out_none : (d : ℕ) (c : List ℕ) → out E D d c [] ≡ []
  unfolding out
  out_none d c = go (eqb d 1)
    where
      go : (t : Bool) → choose t (cbc_encryption E c []) (cbc_decryption D c []) ≡ []
      go true = refl
      go false = refl

  pub chain_none : (d : ℕ) (c : List ℕ) → chain E d c [] ≡ c
  unfolding chain
  chain_none d c = go (eqb d 1)
    where
      go : (t : Bool) → choose t c c ≡ c
      go true = refl
      go false = refl
