use Rattle.std.proofs.Common.{◌≡◌, ℕ, map, Ok, refl, sym, ap, ◌∙◌}
use Rattle.std.specs.Arc.{arc_value}
use Rattle.node_file.specs.Opening.{Opening, no_texts}
use Rattle.node_file.specs.OpeningReading.{anchors_at}
use Rattle.node_file.specs.OpeningView.{common}
use Rattle.prin_text.specs.Labels.{Labels}
use Rattle.prin_text.proofs.Rows.{no_rows}
use Rattle.node_file.proofs.Whole.{fields_are}
use Rattle.node_file.proofs.opening.reading.fields_of.Goals as goal

pub returns-clause-value : goal.returns-clause-value
returns-clause-value c =
    let bytes = c.args.bytes.now in
    let head = c.in_ok-head.head in
    let cs = c.in_ok-channels.ensures.value in
    let os = c.in_ok-objects.ensures.value in
    let anchors : anchors_at bytes cs.0.1 ≡ Ok ((arc_value c.in_ok-anchors.anchors).items, c.in_ok-anchors.next) = ap (anchors_at bytes) (sym cs.2.1) ∙ c.in_ok-anchors.ensures.value in
    let whole : Opening × ℕ = (
      record {
        node = head.node;
        relay_key = head.relay_key;
        shards = head.shards;
        keep = head.keep;
        limit = head.limit;
        names = no_texts;
        channels = cs.0.0;
        anchors = (arc_value c.in_ok-anchors.anchors).items;
        commons = map common c.in_ok-commons.commons.items;
        objects = os.0.0;
      },
      os.0.1,
    ) in (
      whole,
      fields_are bytes (head, c.in_ok-head.next) cs.0 ((arc_value c.in_ok-anchors.anchors).items, c.in_ok-anchors.next) (map common c.in_ok-commons.commons.items, c.in_ok-commons.next) os.0
          c.in_ok-head.ensures.value cs.1 anchors c.in_ok-commons.ensures.value os.1,
      (
        record {
          node = refl;
          relay_key = refl;
          shards = refl;
          keep = refl;
          limit = refl;
          names = no_rows _ (ap (λ (l : Labels). l.names) c.in_ok-names.ensures.empty);
          roles = no_rows _ (ap (λ (l : Labels). l.roles) c.in_ok-names.ensures.empty);
          channels = cs.2.0;
          anchors = refl;
          commons = refl;
          objects = os.2.0;
        },
        os.2.1,
      ),
    )
