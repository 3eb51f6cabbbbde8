-- What a closure captures may go to another thread, if each part may.
use mathlib.Core.List.{List, [], ◌∷◌}
use mir.Syntax.{Sym}
use denote.RattleType.{RattleType}
use denote.Struct.Field.{row_field}
use denote.Struct.Tuple.{TupleAt, parts, type_at}
use denote.Param.Send.{AllSend, IsSend}
use denote.Param.SendFields.{FieldsHave, as_row_send, declared_send}

parts_send : (Ts : List RattleType) → AllSend Ts → FieldsHave IsSend (parts Ts)
parts_send [] all = tt
parts_send (T ∷ Ts) all = (as_row_send (row_field T) all.0, parts_send Ts all.1)

pub captures_send : (ν : Sym) (Ts : List RattleType) → AllSend Ts → IsSend (TupleAt ν Ts)
captures_send ν Ts all = declared_send (type_at ν Ts) (parts_send Ts all)
