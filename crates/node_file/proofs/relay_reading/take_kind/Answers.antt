-- A line is taken by the part of the file that it speaks of.
use Rattle.node_file.proofs.RelayTaken.{issuer_taken, name_taken, node_taken, role_taken}
use Rattle.node_file.proofs.relay_reading.take_kind.Goals as goal

pub returns-in-Name : goal.returns-in-Name
returns-in-Name c = record { takes = λ _ s. name_taken c.args.file.now s c.in-Name.is c.args.rest.now c.take_name.result c.take_name.new.names c.take_name.ensures.takes c.take_name.ensures.roles }

pub returns-in-Role : goal.returns-in-Role
returns-in-Role c = record { takes = λ _ s. role_taken c.args.file.now s c.in-Role.is c.args.rest.now c.take_role.result c.take_role.new.names c.take_role.ensures.takes c.take_role.ensures.names }

pub returns-in-Issuer : goal.returns-in-Issuer
returns-in-Issuer c = record { takes = λ _ s. issuer_taken c.args.file.now s c.in-Issuer.is c.args.rest.now c.take_key.result c.take_key.new.table c.take_key.ensures.takes c.take_key.ensures.room }

pub returns-in-Node : goal.returns-in-Node
returns-in-Node c = record {
  takes = λ _ s.
      node_taken c.args.file.now s c.in-Node.is c.args.rest.now c.take_key-in-Node.result c.take_key-in-Node.new.table c.take_key-in-Node.ensures.takes c.take_key-in-Node.ensures.room;
}
