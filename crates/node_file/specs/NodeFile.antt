-- What a node file means.
use Rattle.std.specs.Prelude.{ℕ, nat_le, codes, if◌then◌else◌}
use Rattle.std.specs.Prelude.{List, [], length, Option, None, Result, Ok, Err}
use Rattle.std.specs.Option.{unwrap_or}
use Rattle.keyed_seal.specs.Keys.{Entries}
use Rattle.object_core.specs.Objects.{ObjectPlan}
use Rattle.prin_term.specs.declared.term.Anchor.{Anchor}
use Rattle.byte_fields.specs.Steps.{◌>>=◌, with_fault, with_value}
use Rattle.prin_text.specs.Labels.{Labels, Rows}
use Rattle.prin_text.specs.declared.limits.TheConstants.{MAX_NAMES, MAX_ROLES}
use Rattle.stmt_codec.specs.Certificates.{Certificate}
use Rattle.prin_text.specs.declared.lines.fault.FileCause.{FileCause}
use Rattle.prin_text.specs.declared.lines.fault.FileCause.TheVariants.{UnknownWord, Limit, NoNode}
use Rattle.prin_text.specs.declared.lines.fault.FileFault.{FileFault}
use Rattle.prin_text.specs.declared.lines.fault.FileFault.TheVariants.{Line}
use Rattle.node_file.specs.declared.limits.TheConstants.{MAX_CHANNELS, MAX_ROOM}
use Rattle.node_file.specs.declared.node_text.kind.LineKind.{LineKind}
use Rattle.node_file.specs.declared.node_text.kind.LineKind.TheVariants as kinds
use Rattle.node_file.specs.declared.node_text.settings.Settings.{Settings}
use Rattle.prin_text.specs.Fields.{if_plain, some_or}
use Rattle.prin_text.specs.FileLines.{LineStep, file_makes, first_or, is_first_line}
use Rattle.prin_text.specs.FileLines.{keys_with, texts_with}
use Rattle.prin_text.specs.Lines.{lines_from, word_off}
use Rattle.node_file.specs.NodeLines.{anchors_with, commons_with, contents_with, grants_with}
use Rattle.node_file.specs.NodeLines.{kind_of, objects_with, settings_with}
use Rattle.node_file.specs.Opening.{Opening, journal_room, no_texts}

-- what the lines of a node file say so far, in the order of the lines
pub record Draft : Type 0 where
  pub settings : Settings
  pub labels : Labels
  pub channels : Entries
  pub anchors : List Anchor
  pub commons : List Certificate
  pub objects : List ObjectPlan

-- no line says anything
abbrev pub no_draft : Draft
no_draft = record {
  settings = record { node = None; shards = None; keep = None; limit = None };
  labels = no_texts;
  channels = [];
  anchors = [];
  commons = [];
  objects = [];
}

-- with other settings
abbrev pub settings_in : Draft → Settings → Draft
settings_in above settings = record above { settings = settings }

-- with other texts of names
abbrev pub names_in : Draft → Rows → Draft
names_in above rows = record above { labels = record { names = rows; roles = above.labels.roles } }

-- with other texts of roles
abbrev pub roles_in : Draft → Rows → Draft
roles_in above rows = record above { labels = record { names = above.labels.names; roles = rows } }

-- with other channels
abbrev pub channels_in : Draft → Entries → Draft
channels_in above channels = record above { channels = channels }

-- with other anchors
abbrev pub anchors_in : Draft → List Anchor → Draft
anchors_in above anchors = record above { anchors = anchors }

-- with other certificates in common
abbrev pub commons_in : Draft → List Certificate → Draft
commons_in above commons = record above { commons = commons }

-- with other objects
abbrev pub objects_in : Draft → List ObjectPlan → Draft
objects_in above objects = record above { objects = objects }

-- what a line about this adds
abbrev pub adds : Draft → LineKind → List ℕ → Result Draft FileCause
adds above (kinds.Setting setting) rest =
    with_value (settings_in above) (settings_with above.settings setting rest)
adds above kinds.Name rest =
    with_value (names_in above) (texts_with MAX_NAMES above.labels.names rest)
adds above kinds.Role rest =
    with_value (roles_in above) (texts_with MAX_ROLES above.labels.roles rest)
adds above kinds.Channel rest =
    with_value (channels_in above) (keys_with MAX_CHANNELS above.channels rest)
adds above kinds.Anchor rest =
    with_value (anchors_in above) (anchors_with above.labels.names above.anchors rest)
adds above kinds.Common rest =
    with_value (commons_in above) (commons_with above.settings.node above.commons rest)
adds above kinds.Object rest =
    with_value (objects_in above) (objects_with above.objects rest)
adds above kinds.Content rest =
    with_value (objects_in above) (contents_with above.objects rest)
adds above kinds.Allow rest =
    with_value (objects_in above) (grants_with above.labels above.objects rest)

-- what a line adds
unfoldable pub node_step : LineStep Draft
node_step above line =
    let w = word_off line in
    some_or UnknownWord (kind_of w.0) >>= λ kind. if_plain line (adds above kind w.1)

-- the same where the first line says what file it is, and adds nothing
abbrev pub any_node_step : LineStep (Option Draft)
any_node_step = first_or (is_first_line (codes "taos")) no_draft node_step

-- what the lines of a node file say together
unfoldable pub draft_in : List ℕ → Result Draft FileFault
draft_in bytes = file_makes (is_first_line (codes "taos")) no_draft node_step (lines_from bytes 0)

-- the opening of a node with this number and this key of its relay, and with 1 shard, 3,600 seconds
-- and 16,384 entries where no line says how many
abbrev pub opening_with : ℕ × List ℕ → Draft → Opening
opening_with node draft = record {
  node = node.0;
  relay_key = node.1;
  shards = unwrap_or draft.settings.shards 1;
  keep = unwrap_or draft.settings.keep 3600;
  limit = unwrap_or draft.settings.limit 16384;
  names = draft.labels;
  channels = draft.channels;
  anchors = draft.anchors;
  commons = draft.commons;
  objects = draft.objects;
}

-- the opening, where its journals have room
abbrev pub roomy : Opening → Result Opening FileCause
roomy o = if nat_le (journal_room o) MAX_ROOM then Ok o else Err Limit

-- the opening that is said
unfoldable pub opening_said : Draft → Result Opening FileCause
opening_said draft =
    some_or NoNode draft.settings.node >>= λ node. roomy (opening_with node draft)

-- the opening that a text means, or its fault; what is lacking is so behind its last line
unfoldable pub text_in : List ℕ → Result Opening FileFault
text_in bytes = draft_in bytes >>= λ draft.
    with_fault (Line (length (lines_from bytes 0))) (opening_said draft)
