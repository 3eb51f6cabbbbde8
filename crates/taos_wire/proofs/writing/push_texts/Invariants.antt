use Rattle.std.proofs.Common.{◌≤◌, map}
use Rattle.std.specs.Prelude.{vec_capacity}
use Rattle.std.specs.Int.{w16}
use Rattle.byte_fields.specs.Steps.{counted}
use Rattle.taos_wire.specs.View.{text_of}
use Rattle.byte_fields.proofs.Pieces.{AreWritten}
use Rattle.taos_wire.proofs.writing.push_texts.Given as goal

abbrev pub invariant-loop-cert : goal.invariant-loop-cert
invariant-loop-cert l = record {
  written : AreWritten (counted w16) (map text_of l.certs) l.cert-index l.fn.out.items l.out.items;
  capacity : vec_capacity l.fn.out ≤ vec_capacity l.out;
}
