-- What is known of a message on an up lane that is not foreign, and of what it asks of the hub.
use Rattle.std.specs.Prelude.{◌≡◌, ℕ, ◌<◌, false}
use Rattle.fabric.specs.declared.message.Message.{Message}
use Rattle.rules.specs.Kinds.{kind_at}
use Rattle.rules.specs.State.{hub_at}
use Rattle.rules.specs.Up.{foreign_up}
use Rattle.rules.specs.declared.kind.Kind.{Kind}
use Rattle.rules.specs.declared.state.HubLine.{HubLine}
use Rattle.rules.specs.declared.state.Size.{Size}
use Rattle.rules.specs.declared.state.State.{State}

-- the message m of shim s is the request n of kind k at the hub's line h
pub record Upward (z : Size) (b : State) (s : ℕ) (m n : Message) (k : Kind) (h : HubLine) : Type 0 where
  pub known : foreign_up z b s m ≡ false
  pub same : n ≡ m
  pub kind : kind_at m ≡ k
  pub hub : h ≡ hub_at b m.line
  pub on_line : m.line < z.lines
  pub own : m.sender ≡ s
