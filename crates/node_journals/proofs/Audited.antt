-- What the text of an audit is of.
use Rattle.std.proofs.Common.{◌≡◌, ◌≢◌, ℕ, zero, suc, ◌+◌, ◌<◌, ◌^◌, get_or, Bool, true, false, List, [], ◌∷◌, ◌++◌, length, map, Contains, AllPairs, flat_map, Option, None, Some, IsSome, slice_get, ◌==◌, cond, refl, sym, ap, ap₂, subst, ◌∙◌, arith, inl, inr, add-zero, eq-eqb, append_assoc, length-append}
use Rattle.std.specs.Prelude.{All}
use Rattle.std.specs.Option.{option_map, is_some}
use Rattle.std.proofs.lemmas.Simd.{map-map}
use Rattle.std.specs.List.{enumerate_from, range_with_len}
use Rattle.std.specs.List.Sorted.{IsStrictlyIncreasing}
use Rattle.std.proofs.lemmas.List.{get_or-map, length-map}
use Rattle.std.proofs.lemmas.List.FromFn.{get_or-map-range_with_len, length-map-range_with_len, length-range_with_len}
use Rattle.std.proofs.lemmas.List.Kept.{AllPairs-from_increasing}
use Rattle.std.proofs.lemmas.Bool.Decides.{eqb_tells}
use Rattle.std.proofs.lemmas.Option.{slice_get-get_or, slice_get-map}
use Rattle.taos_calculus.proofs.Atoms.{Contains-at}
use Rattle.denial_link.proofs.Members.{Contains-to_map, has-cases, has-cons, has-head, has-nil}
use Rattle.shard_core.specs.Alone.{plans_in, seen_in}
use Rattle.agent_core.specs.Journals.{Entry, ShardSeen}
use Rattle.audit_text.specs.ObjectLines.{object_text}
use Rattle.audit_text.specs.ShardLines.{shard_text}
use Rattle.node_file.specs.Opening.{Opening}
use Rattle.object_core.specs.Objects.{ObjectEntry, ObjectSeen, object_of}
use Rattle.agent_core.proofs.AtPlaces.{slice_at}
use Rattle.object_core.specs.OneOwner.{LoneShelfSeen, fixed_on, journal_of, place_on, seen_on}
use Rattle.object_core.specs.Shelving.{ObjectFixed, fixed_at, fixed_of, numbers_of}
use Rattle.object_core.proofs.FindingRows.{place_found}
use Rattle.taos_lanes.specs.declared.opened.OpenNode.{OpenNode}
use Rattle.node_journals.specs.Audit.{AreLegalAs, IsAuditOf, journals_in}
use Rattle.request_course.specs.Cells.{Journals, Node}
use Rattle.journal_bytes.specs.Spelled.{Journals as Spelled, ObjectJournal, SpelledEntry, journals_of, numbered, object_spelled, shard_spelled, spelled}
use Rattle.journal_bytes.specs.Spelling.{journals_bytes}
use Rattle.node_journals.specs.AuditOf.{SpellsAs, all_in, objects_text, shards_text}
use Rattle.node_journals.specs.declared.audit.Form.{Form}
use Rattle.node_journals.specs.declared.audit.Form.TheVariants as form
use Rattle.shard_core.specs.Cells.{AreCellsOf, fixed_with, its_plans, numbers_of as numbers_in}
use Rattle.keyed_seal.specs.Keys.{Entries, key_of}
use Rattle.taos_monitor.proofs.Keyed.{key_listed, listed_key}
use Rattle.agent_core.specs.Opened.{plan_for}
use Rattle.agent_core.specs.State.{Plan}
use Rattle.object_core.specs.Operation.{FitsOperation}
use Rattle.journal_bytes.specs.Limits.{AsksWithin, AsksWithinOf, CitesFew, CitesFewOf, HasFittingOps, NumbersRise}
use Rattle.node_journals.specs.LeftLaws.{AreAsksWithin, AreReplayedLegal, AreWritable}
use Rattle.node_journals.specs.Left.{cells_in, journals_left, objects_of}
use Rattle.audit_replay.specs.Replays.{AreReplayed, entries_in, judged}
use Rattle.audit_replay.specs.declared.replayed.Replayed.{Replayed}
use Rattle.taos_lanes.specs.Opened.{HasFewCommons, IsNodeOf, IsOpenedBy, IsSameNode, IsSmall, node_by, seen_by}
use Rattle.taos_lanes.proofs.Small.{few_at}

-- ---- journals in order, and by their numbers

module _ {E : Type 0} (told : ℕ → List E → List ℕ) (journal : ℕ → List E) where
  by_place : (k : ℕ) (ys : List (List E)) → ((i : ℕ) (y : List E) → slice_get ys i ≡ Some y → journal (k + i) ≡ y) →
      flat_map (λ (x : ℕ × List E). told x.0 x.1) (enumerate_from k ys) ≡ flat_map (λ n. told n (journal n)) (range_with_len k (length ys))
  by_place k [] are = refl
  by_place k (y ∷ ys) are =
      ap₂ (λ (a b : List ℕ). a ++ b) (ap (told k) (sym (ap journal (sym (add-zero k)) ∙ are 0 y refl)))
      (by_place (k + 1) ys (λ i z at. let next : (k + 1) + i ≡ k + suc i = omega arith in ap journal next ∙ are (suc i) z at))

  by_number : {O : Type 0} (number : O → ℕ) (held : O → List E) (k : ℕ) (os : List O) → ((i : ℕ) (o : O) → slice_get os i ≡ Some o → journal (number o) ≡ held o) →
      flat_map (λ (x : ℕ × (ℕ × List E)). told x.1.0 x.1.1) (enumerate_from k (map (λ o. (number o, held o)) os)) ≡ flat_map (λ n. told n (journal n)) (map number os)
  by_number number held k [] are = refl
  by_number number held k (o ∷ os) are =
      ap₂ (λ (a b : List ℕ). a ++ b) (ap (told (number o)) (sym (are 0 o refl)))
      (by_number number held (k + 1) os (λ i p at. are (suc i) p at))

-- ---- shards

journal_there : (shards : List ShardSeen) (i : ℕ) (y : List Entry) → slice_get (map (λ (s : ShardSeen). s.journal) shards) i ≡ Some y → seen_in shards i ≡ y
journal_there [] i y at = cc
journal_there (s ∷ shards) zero y at = cc
journal_there (s ∷ shards) (suc i) y at = journal_there shards i y at

shards_listed : (shards : List ShardSeen) (count : ℕ) → length shards ≡ count → shards_text shards ≡ flat_map (λ s. shard_text s (seen_in shards s)) (range_with_len 0 count)
shards_listed shards count many =
    by_place shard_text (seen_in shards) 0 (map (λ (s : ShardSeen). s.journal) shards) (λ i y at. let same : 0 + i ≡ i = omega arith in ap (seen_in shards) same ∙ journal_there shards i y at)
    ∙ ap (λ n. flat_map (λ s. shard_text s (seen_in shards s)) (range_with_len 0 n)) (length-map shards (λ (s : ShardSeen). s.journal) ∙ many)

-- ---- objects

pub numbers_apart : (ns : List ℕ) → IsStrictlyIncreasing ns → AllPairs (λ (m : ℕ) (n : ℕ). m ≢ n) ns
numbers_apart ns up i j d lt within same = omega (arith, AllPairs-from_increasing ns up i j d lt within, same)

object_there : (shelf : LoneShelfSeen) → IsStrictlyIncreasing (numbers_of (fixed_on shelf)) → (i : ℕ) (o : ObjectSeen) → slice_get shelf.objects i ≡ Some o → seen_on shelf o.plan.number ≡ o.journal
object_there shelf up i o at =
    let ns = numbers_of (fixed_on shelf) in
    let number : slice_get ns i ≡ Some o.plan.number =
    slice_get-map (λ (f : ObjectFixed). f.plan.number) (fixed_on shelf) i ∙ ap (option_map (λ (f : ObjectFixed). f.plan.number)) (slice_get-map fixed_of shelf.objects i ∙ ap (option_map fixed_of) at) in
    let place : place_on shelf o.plan.number ≡ i = place_found ns o.plan.number i (numbers_apart ns up) number in
    ap (λ p. journal_of (slice_get shelf.objects p)) place ∙ ap journal_of at

objects_listed : (shelf : LoneShelfSeen) → IsStrictlyIncreasing (numbers_of (fixed_on shelf)) → objects_text shelf.objects ≡ flat_map (λ n. object_text n (seen_on shelf n)) (numbers_of (fixed_on shelf))
objects_listed shelf up =
    by_number object_text (seen_on shelf) (λ (o : ObjectSeen). o.plan.number) (λ (o : ObjectSeen). o.journal) 0 shelf.objects (object_there shelf up)
    ∙ ap (flat_map (λ n. object_text n (seen_on shelf n))) (its_numbers shelf.objects)
  where
    its_numbers : (os : List ObjectSeen) → map (λ (o : ObjectSeen). o.plan.number) os ≡ numbers_of (map fixed_of os)
    its_numbers [] = refl
    its_numbers (o ∷ os) = ap (λ (l : List ℕ). o.plan.number ∷ l) (its_numbers os)

-- the same as they are spelled
shards_spelled : (k : ℕ) (shards front : List ShardSeen) → length front ≡ k → map shard_spelled shards ≡ map (λ s. map spelled (seen_in (front ++ shards) s)) (range_with_len k (length shards))
shards_spelled k [] front long = refl
shards_spelled k (s ∷ shards) front long =
    let here : seen_in (front ++ s ∷ shards) k ≡ s.journal = journal_there (front ++ s ∷ shards) k s.journal (at_end k front long) in
    let more : length (front ++ s ∷ []) ≡ k + 1 = omega (arith, length-append front (s ∷ []), long) in
    ap₂ (λ (h : List SpelledEntry) l. h ∷ l) (ap (map spelled) (sym here))
    (shards_spelled (k + 1) shards (front ++ s ∷ []) more ∙ ap (λ (l : List ShardSeen). map (λ i. map spelled (seen_in l i)) (range_with_len (k + 1) (length shards))) (append_assoc front (s ∷ []) shards))
  where
    at_end : (k : ℕ) (front : List ShardSeen) → length front ≡ k → slice_get (map (λ (x : ShardSeen). x.journal) (front ++ s ∷ shards)) k ≡ Some s.journal
    at_end k front long =
        slice_get-map (λ (x : ShardSeen). x.journal) (front ++ s ∷ shards) k
        ∙ ap (option_map (λ (x : ShardSeen). x.journal)) (ap (slice_get (front ++ s ∷ shards)) (sym long) ∙ slice_at front s shards)

spelled_by_number : (J : ℕ → List ObjectEntry) (os : List ObjectSeen) → ((i : ℕ) (o : ObjectSeen) → slice_get os i ≡ Some o → J o.plan.number ≡ o.journal) → map object_spelled os ≡ map (λ n. numbered n (J n)) (numbers_of (map fixed_of os))
spelled_by_number J [] are = refl
spelled_by_number J (o ∷ os) are = ap₂ (λ (h : ObjectJournal) l. h ∷ l) (ap (numbered o.plan.number) (sym (are 0 o refl))) (spelled_by_number J os (λ i p at. are (suc i) p at))

objects_spelled : (shelf : LoneShelfSeen) → IsStrictlyIncreasing (numbers_of (fixed_on shelf)) → map object_spelled shelf.objects ≡ map (λ n. numbered n (seen_on shelf n)) (numbers_of (fixed_on shelf))
objects_spelled shelf up = spelled_by_number (seen_on shelf) shelf.objects (object_there shelf up)

-- a number is that of an object that is found
found_among : (b : Bool) (f : ObjectFixed) (rest : Option ObjectFixed) → IsSome rest → IsSome (cond b (Some f) rest)
found_among true f rest some = refl
found_among false f rest some = some

to_found : (fs : List ObjectFixed) (n : ℕ) → Contains (numbers_of fs) n → IsSome (fixed_at fs n)
to_found [] n has = absurd (has-nil n has)
to_found (f ∷ fs) n has = elim (has-cases f.plan.number (numbers_of fs) n has) [
  | inl here ↦ ap (λ (b : Bool). is_some (cond b (Some f) (fixed_at fs n))) (eq-eqb f.plan.number n here)
  | inr later ↦ found_among (f.plan.number == n) f (fixed_at fs n) (to_found fs n later)
]

from_found : (fs : List ObjectFixed) (n : ℕ) → IsSome (fixed_at fs n) → Contains (numbers_of fs) n
from_found [] n some = cc
from_found (f ∷ fs) n some = elim (eqb_tells f.plan.number n) [
  | inl here ↦ subst (Contains (f.plan.number ∷ numbers_of fs)) here.1 (has-head f.plan.number (numbers_of fs))
  | inr other ↦ has-cons f.plan.number (numbers_of fs) n (from_found fs n (sym (ap (λ (b : Bool). is_some (cond b (Some f) (fixed_at fs n))) other.0) ∙ some))
]

some_of : {A B : Type 0} (f : A → B) (o : Option A) → is_some (option_map f o) ≡ is_some o
some_of f None = refl
some_of f (Some x) = refl

-- ---- both

-- in either form it is that of the journals
in_form : (kind : Form) (shards : List ShardSeen) (shelf : LoneShelfSeen) (count : ℕ) (J : Journals) → length shards ≡ count → IsStrictlyIncreasing (numbers_of (fixed_on shelf)) → J.shards ≡ seen_in shards → J.objects ≡ seen_on shelf →
    all_in kind shards shelf.objects ≡ journals_in kind count (numbers_of (fixed_on shelf)) J
in_form form.Text shards shelf count J many up of_shards of_objects =
    ap₂ (λ (a b : List ℕ). a ++ b)
    (shards_listed shards count many ∙ ap (λ (f : ℕ → List Entry). flat_map (λ s. shard_text s (f s)) (range_with_len 0 count)) (sym of_shards))
    (objects_listed shelf up ∙ ap (λ (f : ℕ → List ObjectEntry). flat_map (λ n. object_text n (f n)) (numbers_of (fixed_on shelf))) (sym of_objects))
in_form form.Bytes shards shelf count J many up of_shards of_objects =
    ap journals_bytes
    (ap₂ (λ (x : List (List SpelledEntry)) (y : List ObjectJournal). record { shards = x; objects = y })
    (shards_spelled 0 shards [] refl ∙ ap (λ k. map (λ s. map spelled (seen_in shards s)) (range_with_len 0 k)) many ∙ ap (λ (f : ℕ → List Entry). map (λ s. map spelled (f s)) (range_with_len 0 count)) (sym of_shards))
    (objects_spelled shelf up ∙ ap (λ (f : ℕ → List ObjectEntry). map (λ n. numbered n (f n)) (numbers_of (fixed_on shelf))) (sym of_objects)))

-- what is written of a node that went on is that of its journals
pub is_audit : (kind : Form) (o : Opening) (old new : OpenNode) → IsOpenedBy o old → IsSameNode old new → IsAuditOf kind o (seen_by new).journals (all_in kind new.shards.shards new.shelf.objects)
is_audit kind o old new opened same =
    let fixed : fixed_on new.shelf ≡ fixed_on old.shelf = same.objects in
    let up : IsStrictlyIncreasing (numbers_of (fixed_on new.shelf)) = subst (λ (l : List ObjectFixed). IsStrictlyIncreasing (numbers_of l)) (sym fixed) opened.is_node.by_number in
    let found = λ (n : ℕ). ap (λ (l : List ObjectFixed). is_some (fixed_at l n)) fixed ∙ ap is_some (opened.is_node.objects n) ∙ some_of (fixed_with o.limit) (object_of o.objects n) in
    let many : length new.shards.shards ≡ o.shards =
    sym (length-map new.shards.shards (λ (s : ShardSeen). s.plan)) ∙ ap (λ l. length l) (same.plans ∙ opened.is_node.plans)
    ∙ length-map (range_with_len 0 o.shards) _ ∙ length-range_with_len 0 o.shards in
    record {
      numbers = numbers_of (fixed_on new.shelf);
      are = record {
        ascending = up;
        are = λ n. (λ has. sym (found n) ∙ to_found (fixed_on new.shelf) n has, λ some. from_found (fixed_on new.shelf) n (found n ∙ some));
      };
      is = in_form kind new.shards.shards new.shelf o.shards (seen_by new).journals many up refl refl;
    }

-- ---- what can be spelled

-- whatever the order of its channels
few_again : (o : Opening) (channels others : Entries) → All HasFewCommons (its_plans o channels) → All HasFewCommons (its_plans o others)
few_again o channels others few = λ i d below.
    let f : ℕ → Plan = plan_for (numbers_in channels) o.shards o.anchors o.commons o.keep o.limit in
    let lt : i < o.shards = omega (arith, below, length-map-range_with_len (plan_for (numbers_in others) o.shards o.anchors o.commons o.keep o.limit) 0 o.shards) in
    few_at o others i d lt (subst HasFewCommons (get_or-map-range_with_len f 0 o.shards i i d lt (omega arith)) (few i d (omega (arith, lt, length-map-range_with_len f 0 o.shards))))

module _ (o : Opening) (old new : OpenNode) (opened : IsOpenedBy o old) (same : IsSameNode old new) (small : IsSmall old) where
  pub few_commons : (n : Node) → IsNodeOf o n → All HasFewCommons n.plans
  few_commons n is_node =
      subst (All HasFewCommons) (sym is_node.plans) (few_again o old.keys.channels.entries n.channels (subst (All HasFewCommons) opened.is_node.plans small.commons))

  pub few_objects : length new.shelf.objects < 2 ^ 32
  few_objects = omega (arith, ap (λ (l : List ObjectFixed). length l) same.objects, length-map new.shelf.objects fixed_of, length-map old.shelf.objects fixed_of, small.objects)

  pub all_cite_few : AreWritable (seen_by new).journals → All CitesFew new.shards.shards
  all_cite_few w = λ i d below.
      let shards = new.shards.shards in
      let at : slice_get (map (λ (s : ShardSeen). s.journal) shards) i ≡ Some (get_or shards i d).journal =
      slice_get-map (λ (s : ShardSeen). s.journal) shards i ∙ ap (option_map (λ (s : ShardSeen). s.journal)) (slice_get-get_or shards i d below) in
      subst (All (λ (e : Entry). CitesFewOf e.event)) (journal_there shards i (get_or shards i d).journal at) (w.cites i)

  pub all_ops_fit : AreWritable (seen_by new).journals → All HasFittingOps new.shelf.objects
  all_ops_fit w = λ i d below.
      let objects = new.shelf.objects in
      let up : IsStrictlyIncreasing (numbers_of (fixed_on new.shelf)) = subst (λ (l : List ObjectFixed). IsStrictlyIncreasing (numbers_of l)) (sym same.objects) opened.is_node.by_number in
      subst (All (λ (e : ObjectEntry). FitsOperation e.op)) (object_there new.shelf up i (get_or objects i d) (slice_get-get_or objects i d below)) (w.ops (get_or objects i d).plan.number)

-- ---- what is printed as bytes is replayed

-- a number that is listed has a key, and the other way
has_key : (entries : Entries) (number : ℕ) → Contains (numbers_in entries) number → IsSome (key_of entries number)
has_key entries number (k, within, is) =
    let e = get_or entries k (number, []) in
    let lt : k < length entries = omega (arith, within, length-map entries (λ (c : ℕ × List ℕ). c.0)) in
    let same : e.0 ≡ number = sym (get_or-map (λ (c : ℕ × List ℕ). c.0) entries k (number, []) number lt) ∙ is in
    subst (λ (m : ℕ). IsSome (key_of entries m)) same (listed_key entries k e (slice_get-get_or entries k (number, []) lt))

has_number : (entries : Entries) (number : ℕ) → IsSome (key_of entries number) → Contains (numbers_in entries) number
has_number entries number some =
    let l = key_listed entries number some in
    subst (Contains (numbers_in entries)) l.number (Contains-to_map (λ (c : ℕ × List ℕ). c.0) entries l.entry (Contains-at entries l.place l.entry l.stands))

are_cells : (o : Opening) (n : Node) → IsNodeOf o n → AreCellsOf o (cells_in n)
are_cells o n is = record {
  channels = numbers_in n.channels;
  ascending = is.ascending;
  have_keys = λ k. (
    λ there. subst (λ (x : Option (List ℕ)). IsSome x) (is.channels k) (has_key n.channels k there),
    λ some. has_number n.channels k (subst (λ (x : Option (List ℕ)). IsSome x) (sym (is.channels k)) some),
  );
  plans = is.plans;
  objects = is.objects;
  by_number = is.by_number;
}

pub all_asks : (new : OpenNode) → AreAsksWithin (seen_by new).journals → All AsksWithin new.shards.shards
all_asks new asks = λ i d below.
    let shards = new.shards.shards in
    let at : slice_get (map (λ (s : ShardSeen). s.journal) shards) i ≡ Some (get_or shards i d).journal =
    slice_get-map (λ (s : ShardSeen). s.journal) shards i ∙ ap (option_map (λ (s : ShardSeen). s.journal)) (slice_get-get_or shards i d below) in
    subst (All (λ (e : Entry). AsksWithinOf e.event)) (journal_there shards i (get_or shards i d).journal at) (asks i)

module _ (o : Opening) (old new : OpenNode) (opened : IsOpenedBy o old) (same : IsSameNode old new) where
  ascend : IsStrictlyIncreasing (numbers_of (fixed_on new.shelf))
  ascend = subst (λ (l : List ObjectFixed). IsStrictlyIncreasing (numbers_of l)) (sym same.objects) opened.is_node.by_number

  pub numbers_rise : NumbersRise new.shelf.objects
  numbers_rise i j d lt within =
      let xs = map object_spelled new.shelf.objects in
      let up : IsStrictlyIncreasing (map (λ (x : ObjectJournal). x.number) xs) = subst IsStrictlyIncreasing (its_numbers new.shelf.objects) ascend in
      let long = length-map xs (λ (x : ObjectJournal). x.number) in
      let less = AllPairs-from_increasing (map (λ (x : ObjectJournal). x.number) xs) up i j d.number lt (omega (arith, within, long)) in
      omega (arith, less, get_or-map (λ (x : ObjectJournal). x.number) xs i d d.number (omega (arith, lt, within)), get_or-map (λ (x : ObjectJournal). x.number) xs j d d.number within)
    where
      its_numbers : (os : List ObjectSeen) → numbers_of (map fixed_of os) ≡ map (λ (x : ObjectJournal). x.number) (map object_spelled os)
      its_numbers [] = refl
      its_numbers (x ∷ os) = ap (λ (l : List ℕ). x.plan.number ∷ l) (its_numbers os)

  -- what is spelled is what the node left
  left_is : journals_of new.shards.shards new.shelf.objects ≡ journals_left (node_by old) (seen_by new).journals
  left_is =
      let shards = new.shards.shards in
      let count : length shards ≡ length (plans_in old.shards.shards) = sym (length-map shards (λ (s : ShardSeen). s.plan)) ∙ ap (λ (l : List Plan). length l) same.plans in
      let by_number = objects_spelled new.shelf ascend in
      ap₂ (λ (x : List (List SpelledEntry)) (y : List ObjectJournal). record { shards = x; objects = y })
      (shards_spelled 0 shards [] refl ∙ ap (λ k. map (λ s. map spelled (seen_in shards s)) (range_with_len 0 k)) count ∙ sym (map-map (λ (j : List Entry). map spelled j) (seen_in shards) (range_with_len 0 (length (plans_in old.shards.shards)))))
      (by_number ∙ map-map (λ n. numbered n (seen_on new.shelf n)) (λ (f : ObjectFixed). f.plan.number) (fixed_on new.shelf) ∙ ap (objects_of (seen_by new).journals) same.objects)

  pub made_legal : (kind : Form) → AreReplayedLegal (node_by old) (seen_by new).journals → SpellsAs kind (journals_of new.shards.shards new.shelf.objects) → AreLegalAs kind o (all_in kind new.shards.shards new.shelf.objects)
  made_legal form.Text replayed spells = tt
  made_legal form.Bytes replayed spells = record {
    cells = cells_in (node_by old);
    are = are_cells o (node_by old) opened.is_node;
    entries = _;
    legal = judged spells (subst (λ (j : Spelled). AreReplayed (cells_in (node_by old)) j (Replayed.Legal (entries_in (journals_left (node_by old) (seen_by new).journals)))) (sym left_is) replayed.journals);
  }
