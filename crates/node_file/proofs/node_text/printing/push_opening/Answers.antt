use Rattle.std.proofs.Common.{◌≡◌, ◌∷◌, ◌++◌, [], List, map, ap, ◌∙◌}
use Rattle.std.specs.Prelude.{codes, string_bytes}
use Rattle.std.specs.List.{flat_map}
use Rattle.std.proofs.lemmas.Result.{on_ok_weaker}
use Rattle.prin_term.specs.declared.term.Anchor.{Anchor}
use Rattle.node_file.specs.FilePrinting.{anchor_line, bytes_line, common_line, object_lines, settings_lines, text_line, text_of_lines}
use Rattle.node_file.specs.Meaning.{opening}
use Rattle.node_file.specs.OpeningView.{common}
use Rattle.node_file.proofs.PrintedLists.{behind, six_parts}
use Rattle.node_file.proofs.PrintedOpening.{file_again}
use Rattle.node_file.proofs.ReadFits.{read_fits}
use Rattle.node_file.proofs.node_text.printing.push_opening.Goals as goal

-- the lines of each part stand behind those of the part before
pub returns-clause-printed : goal.returns-clause-printed
returns-clause-printed c =
    let o = opening c.args.opening.now in
    let first = behind (codes "taos 1" ∷ []) (settings_lines o) _ _ _ c.in_ok-push_str.ensures.bytes c.in_ok-push_settings.ensures in
    let same : c.deref-2.result.now ≡ o.anchors = c.deref-2.ensures.value ∙ ap (λ v. v.items) c.deref.ensures in
    let anchors = c.in_ok-push_anchors.ensures ∙ ap (λ (l : List Anchor). string_bytes c.push_channels.new.out ++ text_of_lines (map (anchor_line o.names.names) l)) same in
    let commons = c.in_ok-push_commons.ensures ∙ ap (λ l. string_bytes c.push_anchors.new.out ++ text_of_lines (map (common_line o.relay_key) (map common l))) c.deref-3.ensures.value in
    let six =
    six_parts (codes "taos 1" ∷ settings_lines o) (map (text_line (codes "name")) o.names.names) (map (text_line (codes "role")) o.names.roles) (map (bytes_line (codes "channel")) o.channels) (map (anchor_line o.names.names) o.anchors)
    (map (common_line o.relay_key) o.commons) _ _ _ _ _ _ _ first c.in_ok-push_names.ensures.printed c.in_ok-push_roles.ensures c.in_ok-push_channels.ensures.printed anchors commons in
    on_ok_weaker c.push_objects.result
    (behind
    ((codes "taos 1" ∷ settings_lines o) ++ map (text_line (codes "name")) o.names.names ++ map (text_line (codes "role")) o.names.roles ++ map (bytes_line (codes "channel")) o.channels ++ map (anchor_line o.names.names) o.anchors ++ map (common_line o.relay_key) o.commons)
    (flat_map (object_lines o.names) o.objects) _ _ _ six)
    c.push_objects.ensures.printed

-- its tables are in order
pub returns-clause-again : goal.returns-clause-again
returns-clause-again c =
    on_ok_weaker c.push_objects.result
    (λ last o bytes means r.
    let x = c.args.opening.now in
    file_again (opening x) (read_fits x o bytes means r c.push_channels.ensures.sound c.push_names.ensures.sound c.push_objects.ensures.sound))
    c.push_objects.ensures.printed
