-- A closure goes to another thread where all three that it captures do.
use mathlib.Core.List.{[], ◌∷◌}
use mir.Syntax.{Sym}
use denote.RattleType.{RattleType}
use denote.Param.Send.{IsSend, sendable}
use denote.Struct.Tuple.{TupleAt}

pub three_send : (ν : Sym) (A B C : RattleType) → IsSend A → IsSend B → IsSend C → IsSend (TupleAt ν (A ∷ B ∷ C ∷ []))
three_send ν A B C a b c = search sendable depth 20
