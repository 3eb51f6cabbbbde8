-- The fields one after another.
use Rattle.std.proofs.Common.{◌∷◌, ◌++◌, map}
use Rattle.std.specs.Int.{w16, w32, w64, to_be_bytes}
use Rattle.std.proofs.lemmas.Result.{on_ok_weaker}
use Rattle.byte_fields.specs.Steps.{counted}
use Rattle.byte_fields.proofs.Pieces.{appended, pushes_then}
use Rattle.taos_calculus.specs.Spelling.{proof_bytes}
use Rattle.taos_calculus.specs.Tables.{lines_of}
use Rattle.stmt_codec.specs.Lists.{cited_bytes}
use Rattle.taos_wire.specs.Reply.{flag}
use Rattle.taos_wire.specs.View.{cited}
use Rattle.taos_wire.proofs.ShortReplies.{granted_short}
use Rattle.taos_wire.proofs.reply_granting.push_granted.Goals as goal

pub returns-clause-pushes : goal.returns-clause-pushes
returns-clause-pushes c =
    let g = c.args.grant.now in
    let old = c.args.out.now in
    let told = flag g.kept ∷ g.entry ∷ to_be_bytes w32 g.shard ++ to_be_bytes w64 g.place in
    let proof = proof_bytes (lines_of g.proof.now) in
    let certs = cited_bytes (map cited g.certs.now) in
    let proved = pushes_then old c.push_told.new.out c.write_counted_proof.new.out told proof _ _ c.in_ok-push_told.ensures
    (appended c.push_told.new.out c.write_counted_proof.new.out proof _ c.in_ok-write_counted_proof.ensures.appends) in
    let by = pushes_then old c.write_counted_proof.new.out c.write_bodies.new.out (told ++ proof) certs _ _ proved
    (appended c.write_counted_proof.new.out c.write_bodies.new.out certs _ c.in_ok-write_bodies.ensures.appends) in
    pushes_then old c.write_bodies.new.out c.push_counted.new.out (told ++ proof ++ certs) (counted w16 g.content.now) _ c.push_counted.result by c.push_counted.ensures

pub returns-clause-short : goal.returns-clause-short
returns-clause-short c =
    on_ok_weaker c.push_counted.result
    (λ last. granted_short c.args.grant.now c.in_ok-write_counted_proof.ensures.short c.requires.few_certs c.requires.short)
    c.push_counted.ensures.ok
