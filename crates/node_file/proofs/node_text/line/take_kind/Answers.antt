-- A line is taken by the part of the draft that it speaks of.
use Rattle.std.proofs.Common.{refl}
use Rattle.node_file.specs.NodeLines.{contents_with, grants_with, objects_with}
use Rattle.node_file.proofs.NodeTaken.{anchor_taken, channel_taken, common_taken, name_taken, objects_taken, role_taken, setting_taken}
use Rattle.node_file.proofs.node_text.line.take_kind.Goals as goal

pub returns-in-Setting : goal.returns-in-Setting
returns-in-Setting c = record { takes = λ _ s. setting_taken c.args.draft.now s c.in-Setting.is c.args.rest.now c.take_setting.result c.take_setting.new.settings c.take_setting.ensures }

pub returns-in-Name : goal.returns-in-Name
returns-in-Name c = record { takes = λ _ s. name_taken c.args.draft.now s c.in-Name.is c.args.rest.now c.take_name.result c.take_name.new.names c.take_name.ensures.takes c.take_name.ensures.roles }

pub returns-in-Role : goal.returns-in-Role
returns-in-Role c = record { takes = λ _ s. role_taken c.args.draft.now s c.in-Role.is c.args.rest.now c.take_role.result c.take_role.new.names c.take_role.ensures.takes c.take_role.ensures.names }

pub returns-in-Channel : goal.returns-in-Channel
returns-in-Channel c = record {
  takes = λ _ s.
      channel_taken c.args.draft.now s c.in-Channel.is c.args.rest.now c.take_key.result c.take_key.new.table c.take_key.ensures.takes c.take_key.ensures.room;
}

pub returns-in-Anchor : goal.returns-in-Anchor
returns-in-Anchor c = record { takes = λ _ s. anchor_taken c.args.draft.now s c.in-Anchor.is c.args.rest.now c.take_anchor.result c.take_anchor.new.anchors c.take_anchor.ensures }

pub returns-in-Common : goal.returns-in-Common
returns-in-Common c = record { takes = λ _ s. common_taken c.args.draft.now s c.in-Common.is c.args.rest.now c.take_common.result c.take_common.new.commons c.take_common.ensures }

pub returns-in-Object : goal.returns-in-Object
returns-in-Object c = record {
  takes = λ above s.
      objects_taken c.args.draft.now s c.in-Object.is c.args.rest.now c.take_object.result c.take_object.new.objects
      (objects_with above.objects c.args.rest.now) refl (c.take_object.ensures.takes above.objects s.objects);
}

pub returns-in-Content : goal.returns-in-Content
returns-in-Content c = record {
  takes = λ above s.
      objects_taken c.args.draft.now s c.in-Content.is c.args.rest.now c.take_content.result c.take_content.new.objects
      (contents_with above.objects c.args.rest.now) refl (c.take_content.ensures.takes above.objects s.objects);
}

pub returns-in-Allow : goal.returns-in-Allow
returns-in-Allow c = record {
  takes = λ above s.
      objects_taken c.args.draft.now s c.in-Allow.is c.args.rest.now c.take_allow.result c.take_allow.new.objects
      (grants_with above.labels above.objects c.args.rest.now) refl (c.take_allow.ensures.takes above.labels above.objects s.names s.roles s.objects);
}
