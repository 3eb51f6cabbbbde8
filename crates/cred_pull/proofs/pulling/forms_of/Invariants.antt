use Rattle.std.proofs.Common.{map, take}
use Rattle.taos_wire.specs.View.{text_of}
use Rattle.cred_pull.specs.Pulling.{AllArePulled, Remains, used}
use Rattle.cred_pull.proofs.pulling.forms_of.Given as goal

-- those before the place are pulled
abbrev pub invariant-loop-place : goal.invariant-loop-place
invariant-loop-place g l = record {
  pulled : AllArePulled (g.O.Opens.shown l.initial.by).key (used (g.O.Opens.shown l.initial.by) (g.O.Opens.shown l.by)) (map text_of (take l.place l.texts)) (map text_of l.forms.items);
  rest : Remains (g.O.Opens.shown l.initial.by) (g.O.Opens.shown l.by);
}
