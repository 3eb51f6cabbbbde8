-- What the lines of a node file say together is within the limits.
use Rattle.std.proofs.Common.{◌≡◌, ℕ, ◌^◌, ◌<◌, ◌≤◌, not, List, [], ◌∷◌, ◌++◌, length, Option, None, Some, Ok, subst, arith}
use Rattle.std.specs.Prelude.{nat_le}
use Rattle.std.specs.Option.{is_some}
use Rattle.std.proofs.lemmas.List.Elements.{All-nil, All-push}
use Rattle.std.proofs.lemmas.Option.{none-some, same_Some}
use Rattle.keyed_seal.specs.Keys.{Entries, key_of}
use Rattle.byte_fields.specs.Readers.{is_new}
use Rattle.byte_fields.specs.Steps.{◌>>=◌, with_fault}
use Rattle.prin_term.specs.declared.term.Anchor.{Anchor}
use Rattle.byte_fields.proofs.Results.{bind_ok, chosen_ok, ok_is, with_fault_ok}
use Rattle.prin_text.specs.Labels.{Rows}
use Rattle.stmt_codec.specs.Certificates.{Certificate}
use Rattle.stmt_codec.specs.Equality.{same_certificate}
use Rattle.prin_text.specs.declared.lines.fault.FileCause.{FileCause}
use Rattle.prin_text.specs.declared.lines.fault.FileCause.TheVariants.{Twice, Limit, NoNode, UnknownWord}
use Rattle.prin_text.specs.declared.lines.fault.FileFault.TheVariants.{Line}
use Rattle.node_file.specs.declared.limits.TheConstants.{MAX_SHARDS, MAX_LIMIT, MAX_CHANNELS, MAX_ANCHORS, MAX_COMMONS, MAX_ROOM}
use Rattle.node_file.specs.declared.node_text.kind.LineKind.{LineKind}
use Rattle.node_file.specs.declared.node_text.kind.LineKind.TheVariants as kinds
use Rattle.node_file.specs.declared.node_text.kind.Setting.{Setting}
use Rattle.node_file.specs.declared.node_text.kind.Setting.TheVariants as settings
use Rattle.node_file.specs.declared.node_text.settings.Settings.{Settings}
use Rattle.prin_text.specs.Fields.{digits, granted, if_plain, keyed, numbered, numbered_digits, one_number, some_or}
use Rattle.prin_text.proofs.Plain.{plain_ok}
use Rattle.prin_text.specs.FileLines.{first_of, key_cause, text_cause, unless}
use Rattle.prin_text.specs.Lines.{lines_from, word_off}
use Rattle.node_file.specs.NodeFile.{Draft, adds, anchors_in, channels_in, commons_in, draft_in, names_in, no_draft, node_step, objects_in, opening_said, opening_with, roles_in, roomy, settings_in, text_in}
use Rattle.node_file.specs.NodeLines.{anchor_said, anchors_and, common_said, commons_and, commons_of, contents_and, grants_and, journal_with, keep_with, kind_of, new_within, node_with, objects_and, settings_with, shards_with}
use Rattle.node_file.specs.Opening.{Opening, journal_room}
use Rattle.node_file.specs.OpeningReading.{same_anchor}
use Rattle.node_file.proofs.Kept.{draft_keeps}
use Rattle.node_file.proofs.NodeFits.{AreSmall, ObjectsFit, contents_fit, granted_fit, grants_fit, more_fit, numbered_digits_fit}
use Rattle.node_file.proofs.PartsFit.{new_bounds, numbered_small, one_small, room_for, unless_ok, with_value_ok}

-- the shards and the room of a journal, where a line says them
pub record SettingsFit (s : Settings) : Type 0 where
  pub shards : (n : ℕ) → s.shards ≡ Some n → (1 ≤ n) × (n ≤ MAX_SHARDS)
  pub limit : (n : ℕ) → s.limit ≡ Some n → (1 ≤ n) × (n ≤ MAX_LIMIT)

-- what the lines so far say is within the limits
pub record DraftFits (d : Draft) : Type 0 where
  pub settings : SettingsFit d.settings
  pub names : AreSmall d.labels.names
  pub roles : AreSmall d.labels.roles
  pub channels : length d.channels ≤ MAX_CHANNELS
  pub anchors : length d.anchors ≤ MAX_ANCHORS
  pub commons : length d.commons ≤ MAX_COMMONS
  pub objects : ObjectsFit d.objects

none_said : (n : ℕ) (P : Type 0) → (let o : Option ℕ = None in o) ≡ Some n → P
none_said n P e = absurd (none-some n e)

pub nothing_fits : DraftFits no_draft
nothing_fits = record {
  settings = record { shards = λ n e. none_said n _ e; limit = λ n e. none_said n _ e };
  names = All-nil _;
  roles = All-nil _;
  channels = omega arith;
  anchors = omega arith;
  commons = omega arith;
  objects = λ n p e. absurd (none-some p e);
}

-- ---- settings

bounded : (high m n : ℕ) → (1 ≤ m) × (m ≤ high) → (let o : Option ℕ = Some m in o) ≡ Some n → (1 ≤ n) × (n ≤ high)
bounded high m n within e = subst (λ k. (1 ≤ k) × (k ≤ high)) (same_Some m n e) within

settings_fit : (above s : Settings) (setting : Setting) (rest : List ℕ) → SettingsFit above → settings_with above setting rest ≡ Ok s → SettingsFit s
unfolding node_with shards_with keep_with journal_with
settings_fit above s settings.Node rest fit e =
    let x = bind_ok (keyed rest) (λ x. unless (first_of ((is_some above.node, Twice) ∷ [])) (record above { node = Some x })) s e in
    let u = unless_ok (first_of ((is_some above.node, Twice) ∷ [])) (record above { node = Some x.0 }) s x.2 in
    subst SettingsFit u.1 (record { shards = fit.shards; limit = fit.limit })
settings_fit above s settings.Shards rest fit e =
    let x = bind_ok (one_number 4294967295 rest) (λ n. new_within MAX_SHARDS (is_some above.shards) n >>= λ n. Ok (record above { shards = Some n })) s e in
    let n = bind_ok (new_within MAX_SHARDS (is_some above.shards) x.0) (λ n. Ok (record above { shards = Some n })) s x.2 in
    let more : Settings = record above { shards = Some n.0 } in
    subst SettingsFit (ok_is FileCause more s n.2) (record { shards = λ k is. bounded MAX_SHARDS n.0 k (new_bounds MAX_SHARDS x.0 n.0 (is_some above.shards) n.1) is; limit = fit.limit })
settings_fit above s settings.Keep rest fit e =
    let x = bind_ok (one_number 18446744073709551615 rest) (λ n. new_within 31536000 (is_some above.keep) n >>= λ n. Ok (record above { keep = Some n })) s e in
    let n = bind_ok (new_within 31536000 (is_some above.keep) x.0) (λ n. Ok (record above { keep = Some n })) s x.2 in
    let more : Settings = record above { keep = Some n.0 } in
    subst SettingsFit (ok_is FileCause more s n.2) (record { shards = fit.shards; limit = fit.limit })
settings_fit above s settings.Journal rest fit e =
    let x = bind_ok (one_number 18446744073709551615 rest) (λ n. new_within MAX_LIMIT (is_some above.limit) n >>= λ n. Ok (record above { limit = Some n })) s e in
    let n = bind_ok (new_within MAX_LIMIT (is_some above.limit) x.0) (λ n. Ok (record above { limit = Some n })) s x.2 in
    let more : Settings = record above { limit = Some n.0 } in
    subst SettingsFit (ok_is FileCause more s n.2) (record { shards = fit.shards; limit = λ k is. bounded MAX_LIMIT n.0 k (new_bounds MAX_LIMIT x.0 n.0 (is_some above.limit) n.1) is })

-- ---- lists

texts_fit : (most : ℕ) (rows more : Rows) (rest : List ℕ) → AreSmall rows → (numbered rest >>= λ x. unless (text_cause most rows x.0 x.1) (rows ++ (x.0, x.1) ∷ [])) ≡ Ok more → AreSmall more
texts_fit most rows more rest small e =
    let x = bind_ok (numbered rest) (λ x. unless (text_cause most rows x.0 x.1) (rows ++ (x.0, x.1) ∷ [])) more e in
    let u = unless_ok (text_cause most rows x.0.0 x.0.1) (rows ++ (x.0.0, x.0.1) ∷ []) more x.2 in
    let fits : x.0.0 < 2 ^ 32 = omega (arith, numbered_small rest x.0 x.1) in
    subst AreSmall u.1 (All-push (λ (r : ℕ × List ℕ). r.0 < 2 ^ 32) rows (x.0.0, x.0.1) small fits)

keys_fit : (most : ℕ) (keys more : Entries) (rest : List ℕ) → (keyed rest >>= λ x. unless (key_cause most keys x.0) (keys ++ (x.0, x.1) ∷ [])) ≡ Ok more → length more ≤ most
unfolding key_cause
keys_fit most keys more rest e =
    let x = bind_ok (keyed rest) (λ x. unless (key_cause most keys x.0) (keys ++ (x.0, x.1) ∷ [])) more e in
    room_for most (is_some (key_of keys x.0.0)) Twice keys more (x.0.0, x.0.1) x.2

anchors_fit : (names : Rows) (above more : List Anchor) (rest : List ℕ) → (anchor_said names rest >>= λ a. anchors_and above a) ≡ Ok more → length more ≤ MAX_ANCHORS
unfolding anchors_and
anchors_fit names above more rest e =
    let a = bind_ok (anchor_said names rest) (λ a. anchors_and above a) more e in
    room_for MAX_ANCHORS (not (is_new (same_anchor a.0) above)) Twice above more a.0 a.2

commons_fit : (node : Option (ℕ × List ℕ)) (above more : List Certificate) (rest : List ℕ) → (digits rest >>= λ bytes. commons_of node above bytes) ≡ Ok more → length more ≤ MAX_COMMONS
unfolding commons_and
commons_fit node above more rest e =
    let bytes = bind_ok (digits rest) (λ bytes. commons_of node above bytes) more e in
    let c = bind_ok (common_said node bytes.0) (λ c. commons_and above c) more bytes.2 in
    room_for MAX_COMMONS (not (is_new (same_certificate c.0) above)) Twice above more c.0 c.2

-- ---- a line

pub adds_fit : (d more : Draft) (kind : LineKind) (rest : List ℕ) → DraftFits d → adds d kind rest ≡ Ok more → DraftFits more
adds_fit d more (kinds.Setting setting) rest fit e =
    let s = with_value_ok (settings_in d) (settings_with d.settings setting rest) more e in
    subst DraftFits s.2 (record { settings = settings_fit d.settings s.0 setting rest fit.settings s.1; names = fit.names; roles = fit.roles; channels = fit.channels; anchors = fit.anchors; commons = fit.commons; objects = fit.objects })
adds_fit d more kinds.Name rest fit e =
    let s = with_value_ok (names_in d) _ more e in
    subst DraftFits s.2 (record { settings = fit.settings; names = texts_fit _ d.labels.names s.0 rest fit.names s.1; roles = fit.roles; channels = fit.channels; anchors = fit.anchors; commons = fit.commons; objects = fit.objects })
adds_fit d more kinds.Role rest fit e =
    let s = with_value_ok (roles_in d) _ more e in
    subst DraftFits s.2 (record { settings = fit.settings; names = fit.names; roles = texts_fit _ d.labels.roles s.0 rest fit.roles s.1; channels = fit.channels; anchors = fit.anchors; commons = fit.commons; objects = fit.objects })
adds_fit d more kinds.Channel rest fit e =
    let s = with_value_ok (channels_in d) _ more e in
    subst DraftFits s.2 (record { settings = fit.settings; names = fit.names; roles = fit.roles; channels = keys_fit _ d.channels s.0 rest s.1; anchors = fit.anchors; commons = fit.commons; objects = fit.objects })
adds_fit d more kinds.Anchor rest fit e =
    let s = with_value_ok (anchors_in d) _ more e in
    subst DraftFits s.2 (record { settings = fit.settings; names = fit.names; roles = fit.roles; channels = fit.channels; anchors = anchors_fit d.labels.names d.anchors s.0 rest s.1; commons = fit.commons; objects = fit.objects })
adds_fit d more kinds.Common rest fit e =
    let s = with_value_ok (commons_in d) _ more e in
    subst DraftFits s.2 (record { settings = fit.settings; names = fit.names; roles = fit.roles; channels = fit.channels; anchors = fit.anchors; commons = commons_fit d.settings.node d.commons s.0 rest s.1; objects = fit.objects })
adds_fit d more kinds.Object rest fit e =
    let s = with_value_ok (objects_in d) (one_number 4294967295 rest >>= λ n. objects_and d.objects n) more e in
    let n = bind_ok (one_number 4294967295 rest) (λ n. objects_and d.objects n) s.0 s.1 in
    let small : n.0 < 2 ^ 32 = omega (arith, one_small 4294967295 n.0 rest n.1) in
    subst DraftFits s.2 (record { settings = fit.settings; names = fit.names; roles = fit.roles; channels = fit.channels; anchors = fit.anchors; commons = fit.commons; objects = more_fit d.objects s.0 n.0 fit.objects small n.2 })
adds_fit d more kinds.Content rest fit e =
    let s = with_value_ok (objects_in d) (numbered_digits rest >>= λ x. contents_and d.objects x) more e in
    let x = bind_ok (numbered_digits rest) (λ x. contents_and d.objects x) s.0 s.1 in
    subst DraftFits s.2 (record { settings = fit.settings; names = fit.names; roles = fit.roles; channels = fit.channels; anchors = fit.anchors; commons = fit.commons; objects = contents_fit d.objects s.0 x.0 fit.objects (numbered_digits_fit rest x.0 x.1) x.2 })
adds_fit d more kinds.Allow rest fit e =
    let s = with_value_ok (objects_in d) (granted rest >>= λ x. grants_and d.labels d.objects x) more e in
    let x = bind_ok (granted rest) (λ x. grants_and d.labels d.objects x) s.0 s.1 in
    subst DraftFits s.2 (record { settings = fit.settings; names = fit.names; roles = fit.roles; channels = fit.channels; anchors = fit.anchors; commons = fit.commons; objects = grants_fit d.labels fit.names fit.roles d.objects s.0 x.0 fit.objects (granted_fit rest x.0 x.1) x.2 })

step_fits : (d more : Draft) (line : List ℕ) → DraftFits d → node_step d line ≡ Ok more → DraftFits more
unfolding node_step
step_fits d more line fit e =
    let k = bind_ok (some_or UnknownWord (kind_of (word_off line).0)) (λ kind. if_plain line (adds d kind (word_off line).1)) more e in
    adds_fit d more k.0 (word_off line).1 fit (plain_ok line (adds d k.0 (word_off line).1) more k.2)

-- ---- the whole

-- what a text means is an opening of what its lines say
pub text_is : (bytes : List ℕ) (o : Opening) → text_in bytes ≡ Ok o → (d : Draft) × (node : ℕ × List ℕ) × DraftFits d × (opening_with node d ≡ o)
unfolding text_in opening_said
text_is bytes o e =
    let d = bind_ok (draft_in bytes) (λ draft. with_fault (Line (length (lines_from bytes 0))) (opening_said draft)) o e in
    let said = with_fault_ok (Line (length (lines_from bytes 0))) (opening_said d.0) o d.2 in
    let node = bind_ok (some_or NoNode d.0.settings.node) (λ node. roomy (opening_with node d.0)) o said in
    let c = chosen_ok (nat_le (journal_room (opening_with node.0 d.0)) MAX_ROOM) Limit (opening_with node.0 d.0) o node.2 in
    (d.0, node.0, draft_keeps DraftFits nothing_fits step_fits bytes d.0 d.1, c.1)
