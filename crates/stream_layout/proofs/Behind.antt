-- An output that is written from its front on, one field behind the other.
use mathlib.Core.Path.{◌≡◌, refl, sym, ap, ◌∙◌}
use mathlib.Core.List.{List, [], ◌++◌}
use Prim.Native.Nat.{ℕ, ◌+◌}
use lib.ListN.{length, take, drop, length-append}
use lib.Seq.{take_at, drop_at, drop-drop}

-- the n bytes p stand at the front of what was o
pub record Begun (o p : List ℕ) (n : ℕ) (o' : List ℕ) : Type 0 where
  pub long : length p ≡ n
  pub is : o' ≡ p ++ drop n o

pub none : (o : List ℕ) → Begun o [] 0 o
none o = record { long = refl; is = refl }

-- and m bytes more behind them
pub behind : {o p : List ℕ} {n : ℕ} {o' : List ℕ} (b : List ℕ) (m : ℕ) {o'' : List ℕ} → length b ≡ m → Begun o p n o'
    → o'' ≡ take n o' ++ b ++ drop (n + m) o' → Begun o (p ++ b) (n + m) o''
behind {o} {p} {n} {o'} b m {o''} l s e =
    let front : take n o' ≡ p = ap (take n) s.is ∙ take_at p (drop n o) n s.long in
    let rest : drop n o' ≡ drop n o = ap (drop n) s.is ∙ drop_at p (drop n o) n s.long in
    record {
      long = length-append p b ∙ rw (s.long, l);
      is = e
          ∙ ap (λ (x : List ℕ). x ++ b ++ drop (n + m) o') front
          ∙ ap (λ (x : List ℕ). p ++ b ++ x) (sym (drop-drop m n o') ∙ ap (drop m) rest ∙ drop-drop m n o);
    }
