-- What was read of a file is within the limits in whole.
use Rattle.std.proofs.Common.{◌≡◌, ◌≢◌, ℕ, ◌+◌, ◌*◌, ◌^◌, ◌<◌, ◌≤◌, List, [], length, get_or, Option, None, Some, Ok, refl, sym, ap, subst, ◌∙◌, arith, inl, inr}
use Rattle.std.specs.Prelude.{All, AllPairs, nat_le}
use Rattle.std.proofs.lemmas.Bool.{leb-true}
use Rattle.std.proofs.lemmas.List.{get_or_default}
use Rattle.keyed_seal.specs.Keys.{Entries, IsKeyTable}
use Rattle.keyed_seal.specs.Keys as keys
use Rattle.object_core.specs.Objects.{ObjectPlan}
use Rattle.byte_fields.specs.Steps.{with_fault}
use Rattle.prin_term.specs.declared.term.Anchor.{Anchor}
use Rattle.byte_fields.proofs.Results.{bind_ok, chosen_ok, ok_is, with_fault_ok}
use Rattle.prin_text.specs.Labels.{AreLabels}
use Rattle.stmt_codec.specs.Certificates.{Certificate}
use Rattle.prin_text.specs.declared.lines.fault.FileCause.{FileCause}
use Rattle.prin_text.specs.declared.lines.fault.FileCause.TheVariants.{Limit, NoNode}
use Rattle.prin_text.specs.declared.lines.fault.FileFault.TheVariants.{Line}
use Rattle.node_file.specs.declared.limits.TheConstants.{MAX_ANCHORS, MAX_CHANNELS, MAX_COMMONS, MAX_KEEP, MAX_LIMIT, MAX_OBJECTS, MAX_ROOM, MAX_SHARDS}
use Rattle.node_file.specs.declared.opening.Opening as code
use Rattle.prin_text.specs.Fields.{some_or}
use Rattle.prin_text.specs.Lines.{lines_from}
use Rattle.node_file.specs.Meaning.{opening}
use Rattle.node_file.specs.NodeFile.{draft_in, opening_said, opening_with, roomy, text_in}
use Rattle.node_file.specs.Opening.{FitsObject, FitsOpening, IsAnchor, IsCommon, IsKey, Opening, journal_room}
use Rattle.node_file.specs.OpeningFile.{Means}
use Rattle.node_file.specs.OpeningView.{Represents}
use Rattle.node_file.specs.Plans.{AreByNumber}
use Rattle.node_file.specs.Plans as plans
use Rattle.node_file.proofs.ByNumber.{nothing, object_of-at}
use Rattle.node_file.proofs.DraftFits.{nothing_fits}
use Rattle.node_file.proofs.DraftHolds.{DraftHolds, nothing_holds, step_holds}
use Rattle.node_file.proofs.Kept.{draft_keeps}
use Rattle.node_file.proofs.Listed.{found_all, said_within}
use Rattle.node_file.proofs.NodeFits.{ObjectsFit}

-- ---- an opening, whatever the order of what is looked up

-- it is within the limits but for its texts, and each object that is found is
record Fits (o : Opening) : Type 0 where
  pub node : o.node < 2 ^ 32
  pub relay_key : IsKey o.relay_key
  pub shards : (1 ≤ o.shards) × (o.shards ≤ MAX_SHARDS)
  pub keep : (1 ≤ o.keep) × (o.keep ≤ MAX_KEEP)
  pub limit : (1 ≤ o.limit) × (o.limit ≤ MAX_LIMIT)
  pub few_channels : length o.channels ≤ MAX_CHANNELS
  pub few_anchors : length o.anchors ≤ MAX_ANCHORS
  pub anchors : All IsAnchor o.anchors
  pub each_anchor_once : AllPairs (λ a b. a ≢ b) o.anchors
  pub few_commons : length o.commons ≤ MAX_COMMONS
  pub commons : All IsCommon o.commons
  pub each_common_once : AllPairs (λ c d. c ≢ d) o.commons
  pub few_objects : length o.objects ≤ MAX_OBJECTS
  pub objects : ObjectsFit o.objects
  pub room : journal_room o ≤ MAX_ROOM

some_node : (o : Option (ℕ × List ℕ)) (x : ℕ × List ℕ) → some_or NoNode o ≡ Ok x → o ≡ Some x
some_node None x e = absurd cc
some_node (Some y) x e = ap (λ z. Some z) (ok_is FileCause y x e)

text_fits : (bytes : List ℕ) (o : Opening) → text_in bytes ≡ Ok o → Fits o
unfolding text_in opening_said
text_fits bytes o e =
    let d = bind_ok (draft_in bytes) (λ draft. with_fault (Line (length (lines_from bytes 0))) (opening_said draft)) o e in
    let said = with_fault_ok (Line (length (lines_from bytes 0))) (opening_said d.0) o d.2 in
    let node = bind_ok (some_or NoNode d.0.settings.node) (λ node. roomy (opening_with node d.0)) o said in
    let c = chosen_ok (nat_le (journal_room (opening_with node.0 d.0)) MAX_ROOM) Limit (opening_with node.0 d.0) o node.2 in
    let hold = draft_keeps DraftHolds (nothing_holds nothing_fits) step_holds bytes d.0 d.1 in
    let is = hold.settings.node node.0 (some_node d.0.settings.node node.0 node.1) in
    subst Fits c.1 (record {
      node = is.0;
      relay_key = is.1;
      shards = said_within d.0.settings.shards 1 MAX_SHARDS (omega arith, omega arith) hold.fits.settings.shards;
      keep = said_within d.0.settings.keep 3600 MAX_KEEP (omega arith, omega arith) hold.settings.keep;
      limit = said_within d.0.settings.limit 16384 MAX_LIMIT (omega arith, omega arith) hold.fits.settings.limit;
      few_channels = hold.fits.channels;
      few_anchors = hold.fits.anchors;
      anchors = hold.anchors.0;
      each_anchor_once = hold.anchors.1;
      few_commons = hold.fits.commons;
      commons = hold.commons.0;
      each_common_once = hold.commons.1;
      few_objects = hold.objects;
      objects = hold.fits.objects;
      room = leb-true _ _ c.0;
    })

spelled_fits : (o : Opening) → FitsOpening o → Fits o
spelled_fits o fits = record {
  node = fits.node;
  relay_key = fits.relay_key;
  shards = fits.shards;
  keep = fits.keep;
  limit = fits.limit;
  few_channels = fits.few_channels;
  few_anchors = fits.few_anchors;
  anchors = fits.anchors;
  each_anchor_once = fits.each_anchor_once;
  few_commons = fits.few_commons;
  commons = fits.commons;
  each_common_once = fits.each_common_once;
  few_objects = fits.few_objects;
  objects = λ n p is. found_all FitsObject _ o.objects p fits.objects is;
  room = fits.room;
}

meant_fits : (o : Opening) (bytes : List ℕ) → Means o bytes → Fits o
meant_fits o bytes (inl is) = spelled_fits o is.0
meant_fits o bytes (inr is) = text_fits bytes o is.1

-- ---- what the program holds, by number

numbers_apart : (entries : Entries) → keys.IsAscending entries → AllPairs (λ (c : ℕ × List ℕ) (d : ℕ × List ℕ). c.0 ≢ d.0) entries
numbers_apart entries ascending i j d below within same =
    let first : (get_or entries i d).0 ≡ keys.number_at entries i = ap (λ (e : ℕ × List ℕ). e.0) (get_or_default entries i d (0, []) (omega (arith, below, within))) in
    let second : (get_or entries j d).0 ≡ keys.number_at entries j = ap (λ (e : ℕ × List ℕ). e.0) (get_or_default entries j d (0, []) within) in
    omega (arith, ascending i j below within, first, second, same)

module _ (objects : List ObjectPlan) (sorted : AreByNumber objects) where
  objects_apart : AllPairs (λ (p : ObjectPlan) (q : ObjectPlan). p.number ≢ q.number) objects
  objects_apart i j d below within same =
      let first : (get_or objects i d).number ≡ plans.number_at objects i = ap (λ (p : ObjectPlan). p.number) (get_or_default objects i d nothing (omega (arith, below, within))) in
      let second : (get_or objects j d).number ≡ plans.number_at objects j = ap (λ (p : ObjectPlan). p.number) (get_or_default objects j d nothing within) in
      omega (arith, sorted i j below within, first, second, same)

  objects_fit : ObjectsFit objects → All FitsObject objects
  objects_fit fit i d lt =
      let found = object_of-at objects sorted (plans.number_at objects i) i (record { in_range = lt; has_number = refl }) in
      subst FitsObject (get_or_default objects i nothing d lt) (fit (plans.number_at objects i) (get_or objects i nothing) found)

-- an opening that stands for what a file means, in tables that are in order
pub read_fits : (x : code.Opening) (o : Opening) (bytes : List ℕ) → Means o bytes → Represents x o → IsKeyTable x.channels → AreLabels x.names → AreByNumber x.objects → FitsOpening (opening x)
read_fits x o bytes means r table labels sorted =
    let fits = meant_fits o bytes means in
    record {
      node = subst (λ n. n < 2 ^ 32) (sym r.node) fits.node;
      relay_key = subst IsKey (sym r.relay_key) fits.relay_key;
      shards = subst (λ n. (1 ≤ n) × (n ≤ MAX_SHARDS)) (sym r.shards) fits.shards;
      keep = subst (λ n. (1 ≤ n) × (n ≤ MAX_KEEP)) (sym r.keep) fits.keep;
      limit = subst (λ n. (1 ≤ n) × (n ≤ MAX_LIMIT)) (sym r.limit) fits.limit;
      names = labels;
      few_channels = subst (λ n. n ≤ MAX_CHANNELS) (sym r.channels.count) fits.few_channels;
      channels = table.whole;
      each_channel_once = numbers_apart x.channels.entries table.ascending;
      few_anchors = subst (λ (l : List Anchor). length l ≤ MAX_ANCHORS) (sym r.anchors) fits.few_anchors;
      anchors = subst (All IsAnchor) (sym r.anchors) fits.anchors;
      each_anchor_once = subst (AllPairs (λ (a : Anchor) (b : Anchor). a ≢ b)) (sym r.anchors) fits.each_anchor_once;
      few_commons = subst (λ (l : List Certificate). length l ≤ MAX_COMMONS) (sym r.commons) fits.few_commons;
      commons = subst (All IsCommon) (sym r.commons) fits.commons;
      each_common_once = subst (AllPairs (λ (c : Certificate) (d : Certificate). c ≢ d)) (sym r.commons) fits.each_common_once;
      few_objects = subst (λ n. n ≤ MAX_OBJECTS) (sym r.objects.count) fits.few_objects;
      objects = objects_fit x.objects sorted (λ n p is. fits.objects n p (sym (r.objects.each n) ∙ is));
      each_object_once = objects_apart x.objects sorted;
      room = room_same;
    }
  where
    room_same : journal_room (opening x) ≤ MAX_ROOM
    room_same =
        let fits = meant_fits o bytes means in
        subst (λ n. n ≤ MAX_ROOM) (sym (ap (λ s. (s + length x.objects) * x.limit) r.shards ∙ ap (λ n. (o.shards + n) * x.limit) r.objects.count ∙ ap (λ l. (o.shards + length o.objects) * l) r.limit)) fits.room
