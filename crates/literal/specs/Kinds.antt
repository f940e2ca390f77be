-- The declared kinds, bits, directions, connections and refusals, read as the model's. Assumes nothing: these are definitions.
use Rattle.std.specs.Prelude.{Result, Ok, Err, ℕ, zero, suc, ◌/◌, ◌%◌, pos, neg_ℤ}
use Rattle.model.specs.Signs as model
use Rattle.model.specs.Replies as replies
use Rattle.literal.specs.declared.kind.Kind.{Kind}
use Rattle.literal.specs.declared.kind.Kind.TheVariants.{Half, Full}
use Rattle.literal.specs.declared.kind.Bit.{Bit}
use Rattle.literal.specs.declared.kind.Bit.TheVariants.{Sum, Carry}
use Rattle.literal.specs.declared.kind.Direction.{Direction}
use Rattle.literal.specs.declared.kind.Direction.TheVariants.{If, OnlyIf}
use Rattle.literal.specs.declared.connection.Connection.{Connection}
use Rattle.literal.specs.declared.connection.Connection.TheVariants as names
use Rattle.literal.specs.declared.refusal.Refusal.{Refusal}
use Rattle.literal.specs.declared.refusal.Refusal.TheVariants.{BadTerm, SumTooLarge, PendingFull, NotEncoded, Unsat, EqualityRefused, TooManyBounds, TooWide, NoNodes, NoVariables, NoRoom, Damaged, BadStart, BadConstraint}

abbrev pub kind_of : Kind → model.Kind
kind_of Half = model.half
kind_of Full = model.full

abbrev pub bit_of : Bit → model.Bit
bit_of Sum = model.sum
bit_of Carry = model.carry

abbrev pub direction_of : Direction → model.Dir
direction_of If = model.if_above
direction_of OnlyIf = model.only_if_above

-- a direction by its number: 0 is if, any other only-if
abbrev pub direction_by : ℕ → Direction
direction_by zero = If
direction_by (suc n) = OnlyIf

-- "4n+0 literal n, 4n+1 literal -n, 4n+2 sum of node n, 4n+3 carry of node n; 0 absent"
abbrev pub connection_by : ℕ → ℕ → Connection
connection_by zero n = names.Literal (record { word = pos n })
connection_by (suc zero) n = names.Literal (record { word = neg_ℤ (pos n) })
connection_by (suc (suc zero)) n = names.Sum n
connection_by (suc (suc (suc k))) n = names.Carry n

abbrev pub connection_named : ℕ → Connection
connection_named w = connection_by (w % 4) (w / 4)

-- each refusal is the reply of its name
abbrev pub refused : Refusal → replies.Reply
refused (BadTerm place) = replies.bad_term place
refused SumTooLarge = replies.sum_too_large
refused PendingFull = replies.pending_full
refused NotEncoded = replies.not_encoded
refused Unsat = replies.unsat
refused EqualityRefused = replies.equality
refused TooManyBounds = replies.too_many_bounds
refused TooWide = replies.too_wide
refused NoNodes = replies.no_nodes
refused NoVariables = replies.no_variables
refused NoRoom = replies.no_room
refused Damaged = replies.damaged
refused BadStart = replies.bad_start
refused BadConstraint = replies.bad_constraint

-- a call's reply: accepted where it gives a value
abbrev pub replied : {A : Type 0} → Result A Refusal → replies.Reply
replied (Ok x) = replies.accepted
replied (Err r) = refused r
