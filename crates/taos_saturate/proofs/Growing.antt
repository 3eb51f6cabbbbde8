-- A saturation with one line more.
use Rattle.std.proofs.Common.{◌≡◌, ◌+◌, ◌<◌, ◌≤◌, [], ◌∷◌, ◌++◌, refl, ◌∙◌, arith, le_refl, le_trans}
use Rattle.std.specs.Prelude.{vec_capacity}
use Rattle.taos_calculus.specs.declared.line.Line.{Line}
use Rattle.term_pool.specs.declared.found.Found.{Found}
use Rattle.taos_saturate.specs.declared.saturation.Saturation.{Saturation}
use Rattle.taos_calculus.specs.Numbered.{Gives, facts_at}
use Rattle.term_pool.proofs.Keeping.{each_gives-more}
use Rattle.term_pool.specs.Finding.{IsFound, room}
use Rattle.taos_saturate.specs.Saturating.{IsReady, IsSound, claims_in, IsNew, IsGrown}

abbrev pub with_found : Saturation → Found → Saturation
with_found s f = record { nodes = s.nodes; anchors = s.anchors; cited = s.cited; found = f }

pub ready_with : (s : Saturation) (f : Found) → IsReady s → IsFound f → f.width ≡ s.found.width →
    f.statements ≡ s.found.statements → IsReady (with_found s f)
ready_with s f ready found width statements = record {
  found = found;
  width_is = width ∙ ready.width_is;
  nodes_fit = ready.nodes_fit;
  table = ready.table;
  anchors_fit = ready.anchors_fit;
  cited_fit = ready.cited_fit;
  statements_in = rw statements ready.statements_in;
  cited_in = rw statements ready.cited_in;
}

pub sound_with : (s : Saturation) (f : Found) (l : Line) → IsSound s → f.lines.items ≡ s.found.lines.items ++ l ∷ [] →
    Gives s.nodes.items s.anchors.items (claims_in s) (facts_at s.found.lines.items) l.fact l.step → IsSound (with_found s f)
sound_with s f l sound lines g =
    rw lines (each_gives-more s.nodes.items s.anchors.items (claims_in s) [] s.found.lines.items l sound g)

pub grown_by : (s : Saturation) (f : Found) (l : Line) → IsReady s → IsSound s → IsNew s l → IsFound f → f.width ≡ s.found.width →
    f.statements ≡ s.found.statements → f.lines.items ≡ s.found.lines.items ++ l ∷ [] → room f + 1 ≡ room s.found →
    vec_capacity s.found.lines ≤ vec_capacity f.lines → vec_capacity s.found.numbers ≤ vec_capacity f.numbers →
    IsGrown s (with_found s f) × (room f < room s.found)
grown_by s f l ready sound new found width statements lines less held kept = (
  record {
    ready = ready_with s f ready found width statements;
    sound = sound_with s f l sound lines new.gives;
    table = record { nodes = refl; anchors = refl; cited = refl };
    statements = statements;
    room_left = omega arith;
    lines_kept = held;
    numbers_kept = kept;
  },
  omega arith,
)

pub grown_none : (s : Saturation) → IsReady s → IsSound s → IsGrown s s
grown_none s ready sound = record {
  ready = ready;
  sound = sound;
  table = record { nodes = refl; anchors = refl; cited = refl };
  statements = refl;
  room_left = le_refl (room s.found);
  lines_kept = le_refl (vec_capacity s.found.lines);
  numbers_kept = le_refl (vec_capacity s.found.numbers);
}

pub grown_on : (s t u : Saturation) → IsGrown s t → IsGrown t u → IsGrown s u
grown_on s t u g h = record {
  ready = h.ready;
  sound = h.sound;
  table = record { nodes = h.table.nodes ∙ g.table.nodes; anchors = h.table.anchors ∙ g.table.anchors; cited = h.table.cited ∙ g.table.cited };
  statements = h.statements ∙ g.statements;
  room_left = le_trans h.room_left g.room_left;
  lines_kept = le_trans g.lines_kept h.lines_kept;
  numbers_kept = le_trans g.numbers_kept h.numbers_kept;
}
