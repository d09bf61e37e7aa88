-- Loops that take a message w block by block and write a block to the output o in each turn: the invariant of the output, and, over any block functions, that of CBC.
use mathlib.Core.Path.{◌≡◌, sym, ap, ap₂, ◌∙◌}
use mathlib.Core.List.{List, [], ◌∷◌, ◌++◌, append-nil}
use Prim.Native.Nat.{ℕ, ◌+◌, ◌*◌, ◌≤◌}
use native.Mathlib.Omega.{arith}
use lib.ListN.{length, take, drop, length-append, length-drop}
use lib.Seq.{drop-drop, take_at, drop_at}
use Rattle.laws.specs.Bytes.{xor_l}
use Rattle.cbc.specs.Cbc.{out, chain, join, blocks, Chained}
use Rattle.cbc.proofs.Parts.{blocks_add, join-append, out-append, chain-append, out_none, chain_none}

-- block number j of a message, counted from 0
abbrev pub block : List ℕ → ℕ → List ℕ
block w j = take 16 (drop (16 * j) w)

-- ---- the output o, with j blocks at its front
module _ (o : List ℕ) where
  pub record Laid (given : List ℕ) (j : ℕ) (now : List ℕ) : Type 0 where
    pub long : length given ≡ 16 * j
    pub now_is : now ≡ given ++ drop (16 * j) o

  pub laid_start : (given : List ℕ) → given ≡ [] → Laid given 0 o
  laid_start given z = record { long = ap length z; now_is = sym (ap (λ (l : List ℕ). l ++ o) z) }

  pub laid_length : {given now : List ℕ} {j : ℕ} → Laid given j now → 16 * j ≤ length o → length now ≡ length o
  laid_length {given} {now} {j} r h =
      let e = length-drop (16 * j) o in
      let l = r.long in
      ap length r.now_is ∙ length-append given (drop (16 * j) o) ∙ omega arith

  -- one block more
  pub laid_next : {given now : List ℕ} {j : ℕ} → Laid given j now → (more y then : List ℕ) → more ≡ given ++ y → length y ≡ 16
      → then ≡ take (16 * j) now ++ y ++ drop (16 * j + 16) now → Laid more (j + 1) then
  laid_next {given} {now} {j} r more y then g ly et =
      let l = r.long in
      let e : 16 * j + 16 ≡ 16 * (j + 1) = omega arith in
      let front : take (16 * j) now ≡ given = ap (take (16 * j)) r.now_is ∙ take_at given (drop (16 * j) o) (16 * j) r.long in
      let behind : drop (16 * j + 16) now ≡ drop (16 * (j + 1)) o =
      ap (drop (16 * j + 16)) r.now_is
      ∙ sym (drop-drop 16 (16 * j) (given ++ drop (16 * j) o))
      ∙ ap (drop 16) (drop_at given (drop (16 * j) o) (16 * j) r.long)
      ∙ drop-drop 16 (16 * j) o ∙ ap (λ (k : ℕ). drop k o) e in
      record { long = ap length g ∙ length-append given y ∙ omega arith; now_is = et ∙ rw (front, behind, g) }

-- ---- CBC from the chain block c
module _ (E D : List ℕ → List ℕ) (d : ℕ) (c w o : List ℕ) where
  -- what the first j blocks give
  abbrev given : ℕ → List ℕ
  given j = join (out E D d c (blocks j w))

  pub record Running (j : ℕ) (last now : List ℕ) : Type 0 where
    pub last_is : last ≡ chain E d c (blocks j w)
    pub laid : Laid o (given j) j now

  pub running_start : Running 0 c o
  running_start = record { last_is = sym (chain_none E D d c); laid = laid_start o (given 0) (ap join (out_none E D d c)) }

  given_next : (j : ℕ) (y : List ℕ) → out E D d (chain E d c (blocks j w)) (block w j ∷ []) ≡ y ∷ [] → given (j + 1) ≡ given j ++ y
  given_next j y e =
      ap (λ (bs : List (List ℕ)). join (out E D d c bs)) (blocks_add j 1 w)
      ∙ ap join (out-append E D d c (blocks j w) (block w j ∷ []))
      ∙ join-append (out E D d c (blocks j w)) (out E D d (chain E d c (blocks j w)) (block w j ∷ []))
      ∙ ap (λ (bs : List (List ℕ)). given j ++ join bs) e
      ∙ ap (λ (l : List ℕ). given j ++ l) (append-nil y)

  pub running_next : {j : ℕ} {last now : List ℕ} → Running j last now → (y next then : List ℕ)
      → out E D d last (block w j ∷ []) ≡ y ∷ [] → chain E d last (block w j ∷ []) ≡ next → length y ≡ 16
      → then ≡ take (16 * j) now ++ y ++ drop (16 * j + 16) now → Running (j + 1) next then
  running_next {j} {last} {now} r y next then ey en ly et =
      let g : given (j + 1) ≡ given j ++ y = given_next j y (ap (λ (x : List ℕ). out E D d x (block w j ∷ [])) (sym r.last_is) ∙ ey) in
      record {
        last_is =
            sym en ∙ ap (λ (x : List ℕ). chain E d x (block w j ∷ [])) r.last_is
            ∙ sym (ap (chain E d c) (blocks_add j 1 w) ∙ chain-append E D d c (blocks j w) (block w j ∷ []));
        laid = laid_next o r.laid (given (j + 1)) y then g ly et;
      }

  pub running_end : (j n : ℕ) {last now : List ℕ} → j ≡ n → Running j last now → Chained E D d c w o n last now
  running_end j n e r = rw (← e) (record { last_is = r.last_is; out_is = r.laid.now_is })

-- ---- enciphered from the chain block c, with nothing written: one block more
pub chain_next : (E : List ℕ → List ℕ) (c w : List ℕ) (j : ℕ) (last x m y : List ℕ) → last ≡ chain E 1 c (blocks j w) → x ≡ block w j
    → m ≡ xor_l 16 x last → y ≡ E m → y ≡ chain E 1 c (blocks (j + 1) w)
unfolding chain
chain_next E c w j last x m y el ex em ey =
    ey ∙ ap E (em ∙ ap₂ (xor_l 16) ex el)
    ∙ sym (ap (chain E 1 c) (blocks_add j 1 w) ∙ chain-append E E 1 c (blocks j w) (block w j ∷ []))
