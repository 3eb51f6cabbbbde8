use Rattle.term_pool.specs.Taking.{Findings}
use Rattle.term_pool.proofs.Handing.{ordered, lines_below, have_places, used_within, handed_parts, handed_proof}
use Rattle.term_pool.proofs.taking.take_proof.Goals as goal

pub extract-requires-clause-ordered : goal.extract-requires-clause-ordered
extract-requires-clause-ordered c =
    let f : Findings = record { nodes = c.args.nodes.now; cited = c.args.cited.now; lines = c.args.lines.now } in
    ordered f c.requires.found

pub carry_lines-requires-clause-below : goal.carry_lines-requires-clause-below
carry_lines-requires-clause-below c =
    let f : Findings = record { nodes = c.args.nodes.now; cited = c.args.cited.now; lines = c.args.lines.now } in
    rw c.deref-2.ensures.value (lines_below f c.requires.found c.args.goal c.in_ok-needed.needed.items c.in_ok-needed.ensures)

pub carry_lines-requires-clause-has : goal.carry_lines-requires-clause-has
carry_lines-requires-clause-has c =
    let f : Findings = record { nodes = c.args.nodes.now; cited = c.args.cited.now; lines = c.args.lines.now } in
    let u = rw c.deref.ensures.value at c.in_ok-used.ensures in
    rw (c.deref-2.ensures.value, c.deref-3.ensures.value) (have_places f c.requires.found c.args.goal c.in_ok-needed.needed.items c.in_ok-needed.ensures c.in_ok-used.used.items u)

pub places-requires : goal.places-requires
places-requires c =
    let f : Findings = record { nodes = c.args.nodes.now; cited = c.args.cited.now; lines = c.args.lines.now } in
    let u = rw c.deref.ensures.value at c.in_ok-used.ensures in
    rw c.deref-4.ensures.value (used_within f c.requires.found c.args.goal c.in_ok-needed.needed.items c.in_ok-needed.ensures c.in_ok-used.used.items u)

pub unwrap-proof-requires : goal.unwrap-proof-requires
unwrap-proof-requires c =
    let f : Findings = record { nodes = c.args.nodes.now; cited = c.args.cited.now; lines = c.args.lines.now } in
    let u = rw c.deref.ensures.value at c.in_ok-used.ensures in
    let k = rw (c.deref-2.ensures.value, c.deref-3.ensures.value) at c.in_ok-carried.ensures in
    c.from_parts.ensures.made.1
    (handed_parts f c.requires.found c.args.goal c.in_ok-needed.needed.items c.in_ok-needed.ensures c.in_ok-used.used.items u
    c.in_ok-carried.carried.nodes.items c.in_ok-carried.carried.lines.items k c.requires.few_nodes c.requires.few_lines)

pub returns : goal.returns
returns c =
    let f : Findings = record { nodes = c.args.nodes.now; cited = c.args.cited.now; lines = c.args.lines.now } in
    let u = rw c.deref.ensures.value at c.in_ok-used.ensures in
    let k = rw (c.deref-2.ensures.value, c.deref-3.ensures.value) at c.in_ok-carried.ensures in
    let cites = rw c.deref-4.ensures.value at c.in_ok-cites.ensures in
    let parts = rw c.unwrap-proof.ensures at c.from_parts.ensures.parts in
    rw (cites, parts)
    (handed_proof f c.requires.found c.args.goal c.in_ok-needed.needed.items c.in_ok-needed.ensures c.in_ok-used.used.items u
    c.in_ok-carried.carried.nodes.items c.in_ok-carried.carried.lines.items k)
