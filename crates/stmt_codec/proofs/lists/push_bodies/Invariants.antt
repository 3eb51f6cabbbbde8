use Rattle.std.proofs.Common.{◌≤◌, map}
use Rattle.std.specs.Prelude.{vec_capacity}
use Rattle.stmt_codec.specs.Lists.{cert_bytes}
use Rattle.stmt_codec.specs.View.{certificate_of}
use Rattle.byte_fields.proofs.Pieces.{AreWritten}
use Rattle.stmt_codec.proofs.lists.push_bodies.Given as goal

abbrev pub invariant-loop-cert : goal.invariant-loop-cert
invariant-loop-cert l = record {
  written : AreWritten cert_bytes (map certificate_of l.certs) l.cert-index l.fn.out.items l.out.items;
  capacity : vec_capacity l.fn.out ≤ vec_capacity l.out;
}
