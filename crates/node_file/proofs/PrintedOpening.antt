-- What is printed of an opening within the limits is read as the same.
use Rattle.std.proofs.Common.{◌≡◌, ℕ, false, true, cond, ltb, List, [], ◌++◌, length, map, None, Some, Ok, Err, refl, ap, ◌∙◌}
use Rattle.std.specs.Prelude.{codes}
use Rattle.std.specs.List.{flat_map}
use Rattle.std.proofs.lemmas.Bool.{le-leb, le-ltb}
use Rattle.byte_fields.specs.Steps.{◌>>=◌, with_fault}
use Rattle.prin_text.specs.declared.lines.fault.FileCause.TheVariants.{Limit}
use Rattle.prin_text.specs.declared.lines.fault.FileFault.TheVariants.{Line}
use Rattle.node_file.specs.declared.limits.TheConstants.{MAX_FILE, MAX_ROOM}
use Rattle.prin_text.specs.FileLines.{begun, file_makes, is_first_line, lines_make}
use Rattle.node_file.specs.FilePrinting.{anchor_line, bytes_line, common_line, object_lines, opening_lines, opening_text, settings_lines, text_line}
use Rattle.prin_text.specs.Lines.{lines_from}
use Rattle.node_file.specs.NodeFile.{Draft, anchors_in, channels_in, commons_in, draft_in, names_in, no_draft, node_step, objects_in, opening_said, roles_in, settings_in, text_in}
use Rattle.node_file.specs.Opening.{FitsOpening, Opening, journal_room}
use Rattle.node_file.specs.OpeningFile.{opening_in}
use Rattle.node_file.proofs.Kept.{any_step}
use Rattle.node_file.proofs.PrintedObjects.{objects_go}
use Rattle.node_file.proofs.PrintedSettings.{all_said, settings_go}
use Rattle.node_file.proofs.PrintedSizes.{printed_size}
use Rattle.node_file.proofs.PrintedSteps.{Goes, goes_append, goes_made, goes_plain}
use Rattle.node_file.proofs.PrintedTables.{anchors_go, channels_go, commons_go, names_go, roles_go}
use Rattle.node_file.proofs.PrintedWords.{lines_again}

first_line : is_first_line (codes "taos") (codes "taos 1") ≡ true
unfolding is_first_line
first_line = refl

module _ (o : Opening) (fits : FitsOpening o) where
  -- ---- what is said after each part

  abbrev set : Draft
  set = settings_in no_draft (all_said o)

  abbrev named : Draft
  named = names_in set o.names.names

  abbrev labelled : Draft
  labelled = roles_in named o.names.roles

  abbrev keyed : Draft
  keyed = channels_in labelled o.channels

  abbrev anchored : Draft
  anchored = anchors_in keyed o.anchors

  abbrev shared : Draft
  shared = commons_in anchored o.commons

  abbrev whole : Draft
  whole = objects_in shared o.objects

  -- ---- the lines behind the first

  abbrev to_names : List (List ℕ)
  to_names = settings_lines o ++ map (text_line (codes "name")) o.names.names

  abbrev to_roles : List (List ℕ)
  to_roles = to_names ++ map (text_line (codes "role")) o.names.roles

  abbrev to_channels : List (List ℕ)
  to_channels = to_roles ++ map (bytes_line (codes "channel")) o.channels

  abbrev to_anchors : List (List ℕ)
  to_anchors = to_channels ++ map (anchor_line o.names.names) o.anchors

  abbrev to_commons : List (List ℕ)
  to_commons = to_anchors ++ map (common_line o.relay_key) o.commons

  abbrev rest : List (List ℕ)
  rest = to_commons ++ flat_map (object_lines o.names) o.objects

  pub rest_goes : Goes no_draft rest whole
  rest_goes =
      let names = goes_append (settings_lines o) (map (text_line (codes "name")) o.names.names) no_draft set named (settings_go o fits) (names_go set [] o.names.names fits.names.names) in
      let roles = goes_append to_names (map (text_line (codes "role")) o.names.roles) no_draft named labelled names (roles_go named [] o.names.roles fits.names.roles) in
      let channels = goes_append to_roles (map (bytes_line (codes "channel")) o.channels) no_draft labelled keyed roles (channels_go labelled [] o.channels (record { few = fits.few_channels; fit = fits.channels; apart = fits.each_channel_once })) in
      let anchors =
      goes_append to_channels (map (anchor_line o.names.names) o.anchors) no_draft keyed anchored channels
      (anchors_go o.names fits.names keyed refl [] o.anchors (record { few = fits.few_anchors; fit = fits.anchors; apart = fits.each_anchor_once })) in
      let commons =
      goes_append to_anchors (map (common_line o.relay_key) o.commons) no_draft anchored shared anchors
      (commons_go o.node o.relay_key anchored refl [] o.commons (record { few = fits.few_commons; fit = fits.commons; apart = fits.each_common_once })) in
      goes_append to_commons (flat_map (object_lines o.names) o.objects) no_draft shared whole commons
      (objects_go shared fits.names [] o.objects (record { few = fits.few_objects; fit = fits.objects; apart = fits.each_object_once }))

  -- ---- the whole

  lines_are : lines_from (opening_text o) 0 ≡ opening_lines o
  lines_are = lines_again (opening_lines o) (refl, goes_plain rest no_draft whole rest_goes)

  all_made : lines_make any_step 1 None (opening_lines o) ≡ Ok (Some whole)
  all_made = rw first_line (goes_made rest 2 no_draft whole rest_goes)

  draft_again : draft_in (opening_text o) ≡ Ok whole
  unfolding draft_in
  draft_again =
      ap (file_makes (is_first_line (codes "taos")) no_draft node_step) lines_are ∙ ap (λ r. r >>= begun (length (opening_lines o))) all_made

  said : opening_said whole ≡ Ok o
  unfolding opening_said
  said = ap (λ b. cond b (Ok o) (Err Limit)) (le-leb (journal_room o) MAX_ROOM fits.room)

  pub text_again : text_in (opening_text o) ≡ Ok o
  unfolding text_in
  text_again =
      let count = length (lines_from (opening_text o) 0) in
      ap (λ r. r >>= λ draft. with_fault (Line count) (opening_said draft)) draft_again ∙ ap (with_fault (Line count)) said

-- a file with the text means the opening
pub file_again : (o : Opening) → FitsOpening o → opening_in (opening_text o) ≡ Ok o
unfolding opening_in
file_again o fits =
    let text = opening_text o in
    let short : ltb MAX_FILE (length text) ≡ false = le-ltb MAX_FILE (length text) (printed_size o fits) in
    ap (λ b. cond b (Err (Line 0 Limit)) (text_in text)) short ∙ text_again o fits
