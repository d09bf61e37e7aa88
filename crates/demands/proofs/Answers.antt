-- What a state that is not bad answers: a closed one to a piece, and any to finish.
use mathlib.Core.Path.{◌≡◌}
use mathlib.Core.Bool.{true, false}
use Prim.Native.Nat.{ℕ}
use borrow.Author.Tests.{eq-eqb, ne_eqb}
use Rattle.refusals.specs.Refusals as refusal
use Rattle.stream.specs.State.{held_number, bad_state}
use Rattle.stream.specs.Calls.{piece_refusal, finish_refusal}
use Rattle.stream.specs.declared.Stream.{Stream}

module _ (s : Stream) (a : bad_state s ≡ false) where
  pub piece_closed : (n room : ℕ) → s.closed ≡ true → refusal.closed ≡ piece_refusal s n room
  unfolding piece_refusal
  piece_closed n room b = rw (a, b)

  pub finish_closed : s.closed ≡ true → refusal.closed ≡ finish_refusal s
  unfolding finish_refusal
  finish_closed b = rw (a, b)

  pub finish_held : s.closed ≡ false → (held_number s ≡ 0 → ⊥) → refusal.bytes_held ≡ finish_refusal s
  unfolding finish_refusal
  finish_held b z = rw (a, b, ne_eqb _ _ z)

  pub finish_done : s.closed ≡ false → held_number s ≡ 0 → refusal.done ≡ finish_refusal s
  unfolding finish_refusal
  finish_done b z = rw (a, b, eq-eqb _ _ z)
