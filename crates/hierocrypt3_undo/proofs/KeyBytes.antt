-- The round keys of a key of bytes are bytes (002, section 2.3.4).
use mathlib.Core.Path.{◌≡◌, refl, sym, subst}
use mathlib.Core.Bool.{Bool, true, false}
use mathlib.Core.List.{List, ◌++◌}
use Prim.Native.Nat.{ℕ, zero, suc, ◌+◌, ◌-◌, ◌*◌, ◌/◌, ◌%◌, ◌<◌}
use native.Mathlib.Decide.{dec_lt}
use native.Mathlib.Omega.{arith}
use lib.Dec.{T, ltb, ltb→lt, leb, lit<}
use lib.ListN.{length, get_or, get_or-eq_default}
use Rattle.laws.specs.Choice.{choose}
use Rattle.laws.specs.Bytes.{Byte, Bytes}
use Rattle.laws.proofs.Places.{each_tab}
use Rattle.laws.proofs.Words.{byte_at, bytes_append}
use Rattle.laws.proofs.XorLists.{xor_l_bytes}
use Rattle.laws.proofs.Table.{every, table_at}
use Rattle.hierocrypt3_keys.specs.Operations.{Fσ}
use Rattle.hierocrypt3_steps.specs.Rounds as rounds
use Rattle.hierocrypt3_keys.specs.declared.Intermediate.{Intermediate}
use Rattle.hierocrypt3_tables.specs.Constants.{third, by_length, H2, H3, G0, row, constant}
use Rattle.hierocrypt3_keys.specs.Keys.{◌⊕◌, t_turn, quarter, padding, σ, σ⁻, W1, W2, next, Z}
use Rattle.hierocrypt3_keys.specs.Keys.{plaintext_side, ciphertext_side, key_of, K, round_keys}
use Rattle.hierocrypt3_undo.proofs.Sigma.{Pieces, Fσ_bytes, σ0_pieces, σ_pieces, σ⁻_pieces, W1_bytes, W2_bytes}

-- ---- what holds of each of three lengths or two sides holds of the one that is chosen
by_length_lem : {A : Type 0} (Q : A → Type 0) (len : ℕ) (x y z : A) → Q x → Q y → Q z → Q (by_length len x y z)
by_length_lem Q len x y z p q r = at (len / 8 - 2)
  where
    at : (n : ℕ) → Q (third n x y z)
    at zero = p
    at (suc zero) = q
    at (suc (suc n)) = r

by_choice : {A : Type 0} (Q : A → Type 0) (b : Bool) (x y : A) → Q x → Q y → Q (choose b x y)
by_choice Q true x y p q = p
by_choice Q false x y p q = q

-- ---- the constants
bytes_by : (xs : List ℕ) → length xs ≡ 8 → T (every (λ k x. ltb x 256) 0 xs) → Bytes 8 xs
bytes_by xs e t = record { long = e; each = λ j h. ltb→lt (get_or xs j 0) 256 (table_at (λ k x. ltb x 256) xs t j (subst (λ (n : ℕ). j < n) (sym e) h)) }

G0_bytes : (i : ℕ) → i < 6 → Bytes 8 (G0 i)
G0_bytes zero h = bytes_by (G0 0) refl tt
G0_bytes (suc zero) h = bytes_by (G0 1) refl tt
G0_bytes (suc (suc zero)) h = bytes_by (G0 2) refl tt
G0_bytes (suc (suc (suc zero))) h = bytes_by (G0 3) refl tt
G0_bytes (suc (suc (suc (suc zero)))) h = bytes_by (G0 4) refl tt
G0_bytes (suc (suc (suc (suc (suc zero))))) h = bytes_by (G0 5) refl tt
G0_bytes (suc (suc (suc (suc (suc (suc i)))))) h = absurd (omega arith)

-- past a row's end stands 0
entries_lt : (xs : List ℕ) → T (every (λ k x. ltb x 6) 0 xs) → (j : ℕ) → get_or xs j 0 < 6
entries_lt xs t j = at (dec_lt j (length xs))
  where
    at : Dec (j < length xs) → get_or xs j 0 < 6
    at (yes l) = ltb→lt (get_or xs j 0) 6 (table_at (λ k x. ltb x 6) xs t j l)
    at (no q) = subst (λ (n : ℕ). n < 6) (sym (get_or-eq_default xs 0 (omega arith))) (lit< tt)

pub constant_bytes : (len t : ℕ) → Bytes 8 (constant len t)
constant_bytes len t =
    G0_bytes (get_or (row len) (t - 1) 0)
    (by_length_lem (λ (xs : List ℕ). get_or xs (t - 1) 0 < 6) len (row 16) (row 24) (row 32)
    (entries_lt (row 16) tt (t - 1)) (entries_lt (row 24) tt (t - 1)) (entries_lt (row 32) tt (t - 1)))

-- ---- the intermediate keys
module _ (n : ℕ) (key : List ℕ) (w : Bytes n key) where
  quarter_bytes : (i : ℕ) → Bytes 8 (quarter key i)
  quarter_bytes i = each_tab Byte 0 8 (λ j. get_or key (i * 8 + j) 0) (λ j h. byte_at n key (i * 8 + j) w)

  padding_pieces : Pieces (padding key)
  unfolding padding
  padding_pieces =
      let k : ℕ → List ℕ = quarter key in
      let h32 : Bytes 8 (H3 ++ H2) = bytes_by (H3 ++ H2) refl tt in
      let h23 : Bytes 8 (H2 ++ H3) = bytes_by (H2 ++ H3) refl tt in
      record {
        p1 = quarter_bytes 0;
        p2 = quarter_bytes 1;
        p3 = by_length_lem (Bytes 8) (length key) (k 0) (k 2) (k 2) (quarter_bytes 0) (quarter_bytes 2) (quarter_bytes 2);
        p4 = by_length_lem (Bytes 8) (length key) (H3 ++ H2) (H2 ++ H3) (k 3) h32 h23 (quarter_bytes 3);
      }

  pub Z_pieces : (t : ℕ) → Pieces (Z key t)
  unfolding Z next
  Z_pieces zero = σ0_pieces (G0 5) (G0_bytes 5 (lit< tt)) (padding key) padding_pieces
  Z_pieces (suc t) =
      let g : List ℕ = constant (length key) (suc t) in
      let h : Bytes 8 g = constant_bytes (length key) (suc t) in
      by_choice Pieces (leb (suc t) (t_turn (length key))) (σ g (Z key t)) (σ⁻ g (Z key t))
      (σ_pieces g h (Z key t) (Z_pieces t)) (σ⁻_pieces g h (Z key t) (Z_pieces t))

-- ---- the round keys
four_pieces : (x y z v : List ℕ) → Bytes 8 x → Bytes 8 y → Bytes 8 z → Bytes 8 v → Bytes 32 (x ++ y ++ z ++ v)
four_pieces x y z v hx hy hz hv =
    bytes_append 24 8 (x ++ y ++ z) v (bytes_append 16 8 (x ++ y) z (bytes_append 8 8 x y hx hy) hz) hv

plaintext_bytes : (b z : Intermediate) → Pieces b → Pieces z → Bytes 32 (plaintext_side b z)
unfolding plaintext_side
plaintext_bytes b z p q =
    let v : List ℕ = Fσ (b.z2 ⊕ z.z3) in
    let h : Bytes 8 v = Fσ_bytes (b.z2 ⊕ z.z3) (xor_l_bytes 8 b.z2 z.z3 p.p2 q.p3) in
    four_pieces (b.z1 ⊕ v) (z.z3 ⊕ v) (z.z4 ⊕ v) (b.z2 ⊕ z.z4)
    (xor_l_bytes 8 b.z1 v p.p1 h) (xor_l_bytes 8 z.z3 v q.p3 h) (xor_l_bytes 8 z.z4 v q.p4 h) (xor_l_bytes 8 b.z2 z.z4 p.p2 q.p4)

ciphertext_bytes : (g : List ℕ) → Bytes 8 g → (b z : Intermediate) → Pieces b → Pieces z → Bytes 32 (ciphertext_side g b z)
unfolding ciphertext_side
ciphertext_bytes g h b z p q =
    let v : List ℕ = Fσ (b.z1 ⊕ b.z3) in
    let u : Bytes 8 v = Fσ_bytes (b.z1 ⊕ b.z3) (xor_l_bytes 8 b.z1 b.z3 p.p1 p.p3) in
    let w1 : Bytes 8 (W1 g b) = W1_bytes g h b p in
    let w2 : Bytes 8 (W2 b) = W2_bytes g h b p in
    four_pieces (z.z1 ⊕ b.z3) (W1 g b ⊕ v) (W2 b ⊕ v) (b.z1 ⊕ W2 b)
    (xor_l_bytes 8 z.z1 b.z3 q.p1 p.p3) (xor_l_bytes 8 (W1 g b) v w1 u) (xor_l_bytes 8 (W2 b) v w2 u) (xor_l_bytes 8 b.z1 (W2 b) p.p1 w2)

pub K_bytes : (n : ℕ) (key : List ℕ) → Bytes n key → (t : ℕ) → Bytes 32 (K key t)
unfolding K key_of
K_bytes n key w t =
    let g : List ℕ = constant (length key) t in
    let b : Pieces (Z key (t - 1)) = Z_pieces n key w (t - 1) in
    let z : Pieces (Z key t) = Z_pieces n key w t in
    by_choice (Bytes 32) (leb t (t_turn (length key))) (plaintext_side (Z key (t - 1)) (Z key t)) (ciphertext_side g (Z key (t - 1)) (Z key t))
    (plaintext_bytes (Z key (t - 1)) (Z key t) b z) (ciphertext_bytes g (constant_bytes (length key) t) (Z key (t - 1)) (Z key t) b z)

pub round_keys_bytes : (n : ℕ) (key : List ℕ) → Bytes n key → Bytes ((rounds.T n + 1) * 32) (round_keys key)
unfolding round_keys
round_keys_bytes n key w =
    subst (λ (m : ℕ). Bytes ((rounds.T m + 1) * 32) (round_keys key)) w.long
    (each_tab Byte 0 ((rounds.T (length key) + 1) * 32) (λ m. get_or (K key (suc (m / 32))) (m % 32) 0)
    (λ m h. byte_at 32 (K key (suc (m / 32))) (m % 32) (K_bytes n key w (suc (m / 32)))))
