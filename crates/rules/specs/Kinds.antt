-- The number of each kind of message.
use Rattle.std.specs.Prelude.{ℕ, cond, Some, None, Option, Result, ok_or, ◌==◌}
use Rattle.std.specs.Option.{unwrap_or}
use Rattle.fabric.specs.declared.message.Message.{Message}
use Rattle.rules.specs.declared.kind.Kind.{Kind}
use Rattle.rules.specs.declared.kind.Kind.TheVariants.{Write, ReadRequest, ReadResponse, FenceRequest, FenceResponse, WriteAck, Drop}
use Rattle.rules.specs.declared.unknown.UnknownNumber.{UnknownNumber}

abbrev pub kind_number : Kind → ℕ
kind_number Write = 1
kind_number ReadRequest = 2
kind_number ReadResponse = 3
kind_number FenceRequest = 4
kind_number FenceResponse = 5
kind_number WriteAck = 6
kind_number Drop = 7

-- the kind of a number
abbrev pub kind_of : ℕ → Option Kind
kind_of k =
    cond (k == kind_number Write) (Some Write)
    (cond (k == kind_number ReadRequest) (Some ReadRequest)
    (cond (k == kind_number ReadResponse) (Some ReadResponse)
    (cond (k == kind_number FenceRequest) (Some FenceRequest)
    (cond (k == kind_number FenceResponse) (Some FenceResponse)
    (cond (k == kind_number WriteAck) (Some WriteAck)
    (cond (k == kind_number Drop) (Some Drop) None))))))

-- the kind of a number, or the number back where there is none
abbrev pub kind_or_unknown : ℕ → Result Kind UnknownNumber
kind_or_unknown n = ok_or (kind_of n) (record { 0 = n })

-- the kind of a message; one that is none of the seven is foreign, whatever stands here for it
abbrev pub kind_at : Message → Kind
kind_at m = unwrap_or (kind_of m.kind) Write
