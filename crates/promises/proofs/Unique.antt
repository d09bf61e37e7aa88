-- No second answer meets a call's promise: two results, and two outputs left behind, of which it holds are one.
use mathlib.Core.Path.{◌≡◌, sym, ap, ◌∙◌}
use mathlib.Core.Bool.{Bool}
use mathlib.Core.List.{List}
use Prim.Native.Nat.{ℕ}
use denote.Ref.{Bor}
use Rattle.std.specs.Prelude as std
use Rattle.hex_digits.specs.Read.{Read}
use Rattle.hex_digits.specs.declared.Misspelled.{Misspelled}
use Rattle.card.specs.Promises.{Judges, Finds, Puts}
use Rattle.card_compare.specs.Promises.{Compares}
use Rattle.cipher.specs.Promises.{SetsUp, WorksBlock}
use Rattle.cipher.specs.declared.Schedule.{Schedule}
use Rattle.cipher.specs.Numbered.{SetUp}
use Rattle.stream.specs.Promises.{Starts, Feeds, Finishes}
use Rattle.stream_record.specs.Promises.{LaysDown, TakesUp}
use Rattle.stream.specs.declared.Stream.{Stream}
use Rattle.stream.specs.Numbered.{Started, Fed, Finished}
use Rattle.seal.specs.Promises.{StartsSeal, FeedsSeal, WritesSeal, ChecksSeal}
use Rattle.seal.specs.declared.Seal.{Seal}
use Rattle.seal.specs.Numbered as seals
use Rattle.seal.specs.Numbered.{Written, Checked}
use Rattle.entry.specs.Entry.{WorksForC, TellsVersion}
use Rattle.speed.specs.Works.{Result, WorksBlocks, WorksMessage, WorksBytes}
use Rattle.card_speed.specs.Works.{MeasuresGood, MeasuresFind, MeasuresCompare}
use Rattle.seal_speed.specs.Works.{SealsMessage, SealsBytes}
use Rattle.seal_speed.specs.Works as seal-works

pub one_set_up : (n : ℕ) (key : List ℕ) (r r' : SetUp) → SetsUp n key r → SetsUp n key r' → r ≡ r'
one_set_up n key r r' h h' = h.returned ∙ sym h'.returned

-- either direction f
pub one_block : (f : Schedule → List ℕ → List ℕ) (s : Schedule) (x o : List ℕ) (r r' : ℕ) (q q' : List ℕ)
    → WorksBlock f s x o r q → WorksBlock f s x o r' q' → (r ≡ r') × (q ≡ q')
one_block f s x o r r' q q' h h' = (h.answered ∙ sym h'.answered, h.left ∙ sym h'.left)

pub one_start : (s : Schedule) (d : ℕ) (first : List ℕ) (r r' : Started) → Starts s d first r → Starts s d first r' → r ≡ r'
one_start s d first r r' h h' = h.returned ∙ sym h'.returned

pub one_feed : (s : Stream) (p o : List ℕ) (r r' : Fed) (q q' : List ℕ) → Feeds s p o r q → Feeds s p o r' q' → (r ≡ r') × (q ≡ q')
one_feed s p o r r' q q' h h' = (h.returned ∙ sym h'.returned, h.left ∙ sym h'.left)

pub one_finish : (s : Stream) (r r' : Finished) → Finishes s r → Finishes s r' → r ≡ r'
one_finish s r r' h h' = h.returned ∙ sym h'.returned

pub one_laid_down : (s : Stream) (o : List ℕ) (r r' : ℕ) (q q' : List ℕ) → LaysDown s o r q → LaysDown s o r' q' → (r ≡ r') × (q ≡ q')
one_laid_down s o r r' q q' h h' = (h.answered ∙ sym h'.answered, h.left ∙ sym h'.left)

pub one_taken_up : (s : Schedule) (b : List ℕ) (r r' : Started) → TakesUp s b r → TakesUp s b r' → r ≡ r'
one_taken_up s b r r' h h' = h.returned ∙ sym h'.returned

pub one_entry : (c d : ℕ) (key x o : List ℕ) (r r' : ℕ) (q q' : List ℕ)
    → WorksForC c d key x o r q → WorksForC c d key x o r' q' → (r ≡ r') × (q ≡ q')
one_entry c d key x o r r' q q' h h' = (h.answered ∙ sym h'.answered, h.left ∙ sym h'.left)

pub one_version : (r r' : ℕ) → TellsVersion r → TellsVersion r' → r ≡ r'
one_version r r' h h' = h.returned ∙ sym h'.returned

pub one_reading : (text o : List ℕ) (r r' : std.Result ℕ Misspelled) (q q' : List ℕ) → Read text o r q → Read text o r' q' → (r ≡ r') × (q ≡ q')
one_reading text o r r' q q' h h' = (h.answers ∙ sym h'.answers, h.writes ∙ sym h'.writes)

-- ---- seals
pub one_seal_start : (s : Schedule) (r r' : seals.Started) → StartsSeal s r → StartsSeal s r' → r ≡ r'
one_seal_start s r r' h h' = h.returned ∙ sym h'.returned

pub one_seal_piece : (s : Seal) (p : List ℕ) (r r' : seals.Fed) → FeedsSeal s p r → FeedsSeal s p r' → r ≡ r'
one_seal_piece s p r r' h h' = h.returned ∙ sym h'.returned

pub one_seal_written : (s : Seal) (o : List ℕ) (r r' : Written) (q q' : List ℕ) → WritesSeal s o r q → WritesSeal s o r' q' → (r ≡ r') × (q ≡ q')
one_seal_written s o r r' q q' h h' = (h.returned ∙ sym h'.returned, h.left ∙ sym h'.left)

pub one_seal_check : (s : Seal) (g : List ℕ) (r r' : Checked) → ChecksSeal s g r → ChecksSeal s g r' → r ≡ r'
one_seal_check s g r r' h h' = h.returned ∙ sym h'.returned

-- ---- cards
pub one_judgement : (card : List ℕ) (r r' : Bool) → Judges card r → Judges card r' → r ≡ r'
one_judgement card r r' h h' = h.answered ∙ sym h'.answered

-- a part's bytes, and its place: the memory that it lies in, and where it begins there
pub one_part : (card : Bor (List ℕ)) (recipe segment : ℕ) (p p' : Bor (List ℕ)) → Finds card recipe segment p → Finds card recipe segment p'
    → (p.now ≡ p'.now) × (p.ref_ptr ≡ p'.ref_ptr)
one_part card recipe segment p p' h h' =
    let a = h.handed.inside ∙ sym h'.handed.inside in
    let b = h.handed.begins ∙ sym h'.handed.begins in
    (h.handed.holds ∙ sym h'.handed.holds, λ k. (a k, b k))

pub one_put : (card r : List ℕ) (n n' : ℕ) (q q' : List ℕ) → Puts card r n q → Puts card r n' q' → (n ≡ n') × (q ≡ q')
one_put card r n n' q q' h h' = (h.answered ∙ sym h'.answered, h.left ∙ sym h'.left)

pub one_comparison : (a b out : List ℕ) (n n' w w' : ℕ) (q q' : List ℕ) → Compares a b out n w q → Compares a b out n' w' q'
    → (n ≡ n') × (w ≡ w') × (q ≡ q')
one_comparison a b out n n' w w' q q' h h' =
    (h.answered ∙ sym h'.answered, h.reported ∙ sym h'.reported, h.left ∙ sym h'.left)

-- ---- what host/bench measures
pub one_blocks_measured : (c d : ℕ) (key x o : List ℕ) (r r' : ℕ) (q q' : List ℕ)
    → WorksBlocks c d key x o r q → WorksBlocks c d key x o r' q' → (r ≡ r') × (q ≡ q')
one_blocks_measured c d key x o r r' q q' h h' = (h.answered ∙ sym h'.answered, h.left ∙ sym h'.left)

pub one_message_measured : (c d : ℕ) (key first x o : List ℕ) (r r' : ℕ) (q q' : List ℕ)
    → WorksMessage c d key first x o r q → WorksMessage c d key first x o r' q' → (r ≡ r') × (q ≡ q')
one_message_measured c d key first x o r r' q q' h h' = (h.answered ∙ sym h'.answered, h.left ∙ sym h'.left)

pub one_bytes_measured : (c d : ℕ) (key first x o : List ℕ) (r r' : ℕ) (q q' : List ℕ)
    → WorksBytes c d key first x o r q → WorksBytes c d key first x o r' q' → (r ≡ r') × (q ≡ q')
one_bytes_measured c d key first x o r r' q q' h h' =
    let e = h.worked ∙ sym h'.worked in
    (ap (λ (x : Result). x.answer) e, ap (λ (x : Result). x.out) e)

pub one_good_measured : (card : List ℕ) (r r' : ℕ) → MeasuresGood card r → MeasuresGood card r' → r ≡ r'
one_good_measured card r r' h h' = h.answered ∙ sym h'.answered

pub one_find_measured : (card : List ℕ) (recipe segment r r' : ℕ) → MeasuresFind card recipe segment r → MeasuresFind card recipe segment r' → r ≡ r'
one_find_measured card recipe segment r r' h h' = h.answered ∙ sym h'.answered

pub one_compare_measured : (a b o : List ℕ) (r r' : ℕ) (q q' : List ℕ)
    → MeasuresCompare a b o r q → MeasuresCompare a b o r' q' → (r ≡ r') × (q ≡ q')
one_compare_measured a b o r r' q q' h h' = (h.answered ∙ sym h'.answered, h.left ∙ sym h'.left)

pub one_seal_measured : (c : ℕ) (key x o : List ℕ) (r r' : ℕ) (q q' : List ℕ)
    → SealsMessage c key x o r q → SealsMessage c key x o r' q' → (r ≡ r') × (q ≡ q')
one_seal_measured c key x o r r' q q' h h' =
    let e = h.worked ∙ sym h'.worked in
    (ap (λ (x : seal-works.Result). x.answer) e, ap (λ (x : seal-works.Result). x.out) e)

pub one_seal_by_bytes_measured : (c : ℕ) (key x o : List ℕ) (r r' : ℕ) (q q' : List ℕ)
    → SealsBytes c key x o r q → SealsBytes c key x o r' q' → (r ≡ r') × (q ≡ q')
one_seal_by_bytes_measured c key x o r r' q q' h h' =
    let e = h.worked ∙ sym h'.worked in
    (ap (λ (x : seal-works.Result). x.answer) e, ap (λ (x : seal-works.Result). x.out) e)
