-- How pairs of functions that undo one another are put together: the other way round, one after the other, over rounds, at each place of a list. A cipher's inverse
-- is then a term that follows its definition.
use mathlib.Core.Path.{◌≡◌, refl, sym, ap, ◌∙◌, subst}
use mathlib.Core.List.{List}
use Prim.Native.Nat.{ℕ, zero, suc, ◌<◌}
use native.Mathlib.Nat.{le-suc, le_refl, le_trans}
use lib.Bits.{bit_xor, xor_lt}
use lib.ListN.{get_or}
use Rattle.laws.specs.Places.{layer, Each}
use Rattle.laws.specs.Bytes.{Word, xor_l}
use Rattle.laws.specs.Rounds.{steps, back}
use Rattle.laws.specs.Inverse.{Inverse}
use Rattle.laws.proofs.Xor.{xor_cancel_r}
use Rattle.laws.proofs.Places.{each_tab, layer_undo}
use Rattle.laws.proofs.XorLists.{xor_l_words, xor_l_cancel_r}

module _ {A : Type 0} {P : A → Type 0} where
  pub flip : {f g : A → A} → Inverse P f g → Inverse P g f
  flip v = record { on = v.off; off = v.on; undo = v.redo; redo = v.undo }

  pub nothing : Inverse P (λ a. a) (λ a. a)
  nothing = record { on = λ a p. p; off = λ a p. p; undo = λ a p. refl; redo = λ a p. refl }

  -- f, then h
  pub and_then : {f g h k : A → A} → Inverse P f g → Inverse P h k → Inverse P (λ a. h (f a)) (λ a. g (k a))
  and_then {f} {g} {h} {k} v w =
      record {
        on = λ a p. w.on (f a) (v.on a p);
        off = λ a p. v.off (k a) (w.off a p);
        undo = λ a p. ap g (w.undo (f a) (v.on a p)) ∙ v.undo a p;
        redo = λ a p. ap h (v.redo (k a) (w.off a p)) ∙ w.redo a p;
      }

  pub rounds : (n : ℕ) (f g : ℕ → A → A) → ((i : ℕ) → i < n → Inverse P (f i) (g i)) → Inverse P (steps n f) (back n g)
  rounds zero f g v = nothing
  rounds (suc n) f g v = and_then (rounds n f g (λ i h. v i (le_trans h (le-suc n)))) (v n (le_refl (suc n)))

pub at_each : {A : Type 0} {P : A → Type 0} (d : A) (n : ℕ) (f g : ℕ → A → A) → ((j : ℕ) → j < n → Inverse P (f j) (g j))
    → Inverse (Each P d n) (layer n d f) (layer n d g)
at_each {A} {P} d n f g v =
    record {
      on = λ xs w. each_tab P d n (λ j. f j (get_or xs j d)) (λ j l. (v j l).on (get_or xs j d) (w.each j l));
      off = λ xs w. each_tab P d n (λ j. g j (get_or xs j d)) (λ j l. (v j l).off (get_or xs j d) (w.each j l));
      undo = λ xs w. layer_undo n d d f g xs w.long (λ j l. (v j l).undo (get_or xs j d) (w.each j l));
      redo = λ xs w. layer_undo n d d g f xs w.long (λ j l. (v j l).redo (get_or xs j d) (w.each j l));
    }

-- ---- carried to other values: `load` and `store` lead there and back
pub carried : {A B : Type 0} {P : A → Type 0} {Q : B → Type 0} (load : B → A) (store : A → B)
    → ((b : B) → Q b → P (load b)) → ((a : A) → P a → Q (store a))
    → ((b : B) → Q b → store (load b) ≡ b) → ((a : A) → P a → load (store a) ≡ a)
    → {f g : A → A} → Inverse P f g → Inverse Q (λ b. store (f (load b))) (λ b. store (g (load b)))
carried load store in-good out-good back-out back_in {f} {g} v =
    record {
      on = λ b q. out-good (f (load b)) (v.on (load b) (in-good b q));
      off = λ b q. out-good (g (load b)) (v.off (load b) (in-good b q));
      undo = λ b q.
          ap (λ a. store (g a)) (back_in (f (load b)) (v.on (load b) (in-good b q)))
          ∙ ap store (v.undo (load b) (in-good b q)) ∙ back-out b q;
      redo = λ b q.
          ap (λ a. store (f a)) (back_in (g (load b)) (v.off (load b) (in-good b q)))
          ∙ ap store (v.redo (load b) (in-good b q)) ∙ back-out b q;
    }

-- ---- xor with a key undoes itself: on a word, and on a list of n words
pub xored : (w k : ℕ) → Word w k → Inverse (Word w) (λ x. bit_xor x k) (λ x. bit_xor x k)
xored w k h =
    record {
      on = λ x l. xor_lt w x k l h;
      off = λ x l. xor_lt w x k l h;
      undo = λ x l. xor_cancel_r x k;
      redo = λ x l. xor_cancel_r x k;
    }

pub xored_list : (w n : ℕ) (k : List ℕ) → Each (Word w) 0 n k → Inverse (Each (Word w) 0 n) (λ xs. xor_l n xs k) (λ xs. xor_l n xs k)
xored_list w n k h =
    record {
      on = λ xs l. xor_l_words w n xs k l h;
      off = λ xs l. xor_l_words w n xs k l h;
      undo = λ xs l. xor_l_cancel_r n xs k l.long;
      redo = λ xs l. xor_l_cancel_r n xs k l.long;
    }

-- ---- what is undone on one kind of values is so seen through another kind, where the two can be turned into one another
module _ {A B : Type 0} {P : A → Type 0} {Q : B → Type 0} (to : A → B) (from : B → A)
    (to-keeps : (a : A) → P a → Q (to a)) (from-keeps : (b : B) → Q b → P (from b))
    (from-to : (a : A) → P a → from (to a) ≡ a) (to-from : (b : B) → Q b → to (from b) ≡ b) where
  pub through : {f g : B → B} → Inverse Q f g → Inverse P (λ a. from (f (to a))) (λ a. from (g (to a)))
  through {f} {g} v =
      record {
        on = λ a p. from-keeps (f (to a)) (v.on (to a) (to-keeps a p));
        off = λ a p. from-keeps (g (to a)) (v.off (to a) (to-keeps a p));
        undo = λ a p. ap (λ (b : B). from (g b)) (to-from (f (to a)) (v.on (to a) (to-keeps a p))) ∙ ap from (v.undo (to a) (to-keeps a p)) ∙ from-to a p;
        redo = λ a p. ap (λ (b : B). from (f b)) (to-from (g (to a)) (v.off (to a) (to-keeps a p))) ∙ ap from (v.redo (to a) (to-keeps a p)) ∙ from-to a p;
      }

-- ---- two functions that agree with two that undo one another undo one another
pub alike : {A : Type 0} {P : A → Type 0} {f g h k : A → A} → Inverse P f g
    → ((a : A) → P a → f a ≡ h a) → ((a : A) → P a → g a ≡ k a) → Inverse P h k
alike {A} {P} {f} {g} {h} {k} v e d =
    record {
      on = λ a p. subst P (e a p) (v.on a p);
      off = λ a p. subst P (d a p) (v.off a p);
      undo = λ a p. ap k (sym (e a p)) ∙ sym (d (f a) (v.on a p)) ∙ v.undo a p;
      redo = λ a p. ap h (sym (d a p)) ∙ sym (e (g a) (v.off a p)) ∙ v.redo a p;
    }
