-- Where a call is done, no cause of its refusals applies.
use mathlib.Core.Path.{◌≡◌, refl}
use mathlib.Core.Bool.{Bool, true, false}
use mathlib.Core.List.{List, [], ◌∷◌}
use Prim.Native.Nat.{ℕ}
use lib.Dec.{eqb}
use borrow.Author.Tests.{eqb-false}
use Rattle.refusals.specs.Refusals as refusal

-- no cause applies
abbrev pub Clear : List Bool → Type 0
Clear [] = Unit
Clear (b ∷ bs) = (b ≡ false) × Clear bs

abbrev causes : List (Bool × ℕ) → List Bool
causes [] = []
causes (c ∷ cs) = c.0 ∷ causes cs

-- each number is another than that of a done call
abbrev Numbered : List (Bool × ℕ) → Type 0
Numbered [] = Unit
Numbered (c ∷ cs) = (eqb c.1 refusal.done ≡ false) × Numbered cs

clear : (cs : List (Bool × ℕ)) → Numbered cs → refusal.first cs ≡ refusal.done → Clear (causes cs)
clear [] n e = tt
clear ((true, k) ∷ cs) n e = absurd (eqb-false k refusal.done n.0 e)
clear ((false, k) ∷ cs) n e = (refl, clear cs n.1 e)

pub set_up_clear : (c l b : Bool) → refusal.set_up_order c l b ≡ refusal.done → Clear (c ∷ l ∷ b ∷ [])
set_up_clear c l b = clear ((c, refusal.unknown_cipher) ∷ (l, refusal.key_length) ∷ (b, refusal.blank_key) ∷ []) (refl, (refl, (refl, tt)))

pub block_clear : (s b r : Bool) → refusal.block_order s b r ≡ refusal.done → Clear (s ∷ b ∷ r ∷ [])
block_clear s b r = clear ((s, refusal.bad_schedule) ∷ (b, refusal.block_length) ∷ (r, refusal.no_room) ∷ []) (refl, (refl, (refl, tt)))

pub start_clear : (s d b : Bool) → refusal.start_order s d b ≡ refusal.done → Clear (s ∷ d ∷ b ∷ [])
start_clear s d b = clear ((s, refusal.bad_schedule) ∷ (d, refusal.direction) ∷ (b, refusal.first_block_length) ∷ []) (refl, (refl, (refl, tt)))

pub piece_clear : (s e l r : Bool) → refusal.piece_order s e l r ≡ refusal.done → Clear (s ∷ e ∷ l ∷ r ∷ [])
piece_clear s e l r = clear ((s, refusal.bad_state) ∷ (e, refusal.closed) ∷ (l, refusal.over_limit) ∷ (r, refusal.no_room) ∷ []) (refl, (refl, (refl, (refl, tt))))

pub finish_clear : (s e h : Bool) → refusal.finish_order s e h ≡ refusal.done → Clear (s ∷ e ∷ h ∷ [])
finish_clear s e h = clear ((s, refusal.bad_state) ∷ (e, refusal.closed) ∷ (h, refusal.bytes_held) ∷ []) (refl, (refl, (refl, tt)))

pub entry_clear : (c l k d b r : Bool) → refusal.entry_order c l k d b r ≡ refusal.done → Clear (c ∷ l ∷ k ∷ d ∷ b ∷ r ∷ [])
entry_clear c l k d b r =
    clear
    ((c, refusal.unknown_cipher) ∷ (l, refusal.key_length) ∷ (k, refusal.blank_key) ∷ (d, refusal.direction) ∷ (b, refusal.block_length) ∷ (r, refusal.no_room) ∷ [])
    (refl, (refl, (refl, (refl, (refl, (refl, tt))))))

pub put_clear : (c r s : Bool) → refusal.put_order c r s ≡ refusal.done → Clear (c ∷ r ∷ s ∷ [])
put_clear c r s = clear ((c, refusal.bad_card) ∷ (r, refusal.bad_record) ∷ (s, refusal.no_slot) ∷ []) (refl, (refl, (refl, tt)))

pub seal_start_clear : (s : Bool) → refusal.seal_start_order s ≡ refusal.done → Clear (s ∷ [])
seal_start_clear s = clear ((s, refusal.bad_schedule) ∷ []) (refl, tt)

pub seal_piece_clear : (s e l : Bool) → refusal.seal_piece_order s e l ≡ refusal.done → Clear (s ∷ e ∷ l ∷ [])
seal_piece_clear s e l = clear ((s, refusal.bad_state) ∷ (e, refusal.closed) ∷ (l, refusal.over_limit) ∷ []) (refl, (refl, (refl, tt)))

pub seal_write_clear : (s e r : Bool) → refusal.seal_write_order s e r ≡ refusal.done → Clear (s ∷ e ∷ r ∷ [])
seal_write_clear s e r = clear ((s, refusal.bad_state) ∷ (e, refusal.closed) ∷ (r, refusal.no_room) ∷ []) (refl, (refl, (refl, tt)))

pub seal_check_clear : (s e : Bool) → refusal.seal_check_order s e ≡ refusal.done → Clear (s ∷ e ∷ [])
seal_check_clear s e = clear ((s, refusal.bad_state) ∷ (e, refusal.closed) ∷ []) (refl, (refl, tt))

pub lay_down_clear : (s r : Bool) → refusal.lay_down_order s r ≡ refusal.done → Clear (s ∷ r ∷ [])
lay_down_clear s r = clear ((s, refusal.bad_state) ∷ (r, refusal.no_room) ∷ []) (refl, (refl, tt))

pub take_up_clear : (s r o : Bool) → refusal.take_up_order s r o ≡ refusal.done → Clear (s ∷ r ∷ o ∷ [])
take_up_clear s r o = clear ((s, refusal.bad_schedule) ∷ (r, refusal.bad_stream_record) ∷ (o, refusal.other_schedule) ∷ []) (refl, (refl, (refl, tt)))

pub compare_clear : (a b r : Bool) → refusal.compare_order a b r ≡ refusal.done → Clear (a ∷ b ∷ r ∷ [])
compare_clear a b r = clear ((a, refusal.bad_card) ∷ (b, refusal.bad_card) ∷ (r, refusal.no_room) ∷ []) (refl, (refl, (refl, tt)))
