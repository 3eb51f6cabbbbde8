use Rattle.std.proofs.Common.{refl, ◌∙◌}
use Rattle.prin_text.proofs.Added.{holds_what}
use Rattle.node_file.proofs.relay_reading.file_of.Goals as goal

pub returns : goal.returns
returns c = λ r s. (
  r,
  refl,
  record {
    issuers = holds_what c.in_ok-table.field-0 c.args.draft.issuers r.issuers c.in_ok-table.ensures.holds s.issuers;
    nodes = holds_what c.in_ok-table-2.field-0 c.args.draft.nodes r.nodes c.in_ok-table-2.ensures.holds s.nodes;
    issuers_room = c.in_ok-table.ensures.room ∙ s.issuers_room;
    nodes_room = c.in_ok-table-2.ensures.room ∙ s.nodes_room;
    names = s.names;
    roles = s.roles;
  },
)
