use Rattle.std.proofs.Common.{sym}
use Rattle.sheet.specs.declared.op.Op.TheVariants.{Load, Store, Fence, Evict, Up, Down}
use Rattle.sheet.proofs.Calls.{call_line}
use Rattle.sheet.proofs.reader.Reader.line.Goals as goal

pub returns-in-l-clause-line : goal.returns-in-l-clause-line
returns-in-l-clause-line c = call_line _ _ Load _ (sym c.in_ok-wanted.ensures) c.in-l.is c.call.ensures.value c.call.ensures.after

pub returns-in-s-clause-line : goal.returns-in-s-clause-line
returns-in-s-clause-line c = call_line _ _ Store _ (sym c.in_ok-wanted.ensures) c.in-s.is c.call-in-s.ensures.value c.call-in-s.ensures.after

pub returns-in-f-clause-line : goal.returns-in-f-clause-line
returns-in-f-clause-line c = call_line _ _ Fence _ (sym c.in_ok-wanted.ensures) c.in-f.is c.call-in-f.ensures.value c.call-in-f.ensures.after

pub returns-in-e-clause-line : goal.returns-in-e-clause-line
returns-in-e-clause-line c = call_line _ _ Evict _ (sym c.in_ok-wanted.ensures) c.in-e.is c.call-in-e.ensures.value c.call-in-e.ensures.after

pub returns-in-u-clause-line : goal.returns-in-u-clause-line
returns-in-u-clause-line c = call_line _ _ Up _ (sym c.in_ok-wanted.ensures) c.in-u.is c.call-in-u.ensures.value c.call-in-u.ensures.after

pub returns-in-d-clause-line : goal.returns-in-d-clause-line
returns-in-d-clause-line c = call_line _ _ Down _ (sym c.in_ok-wanted.ensures) c.in-d.is c.call-in-d.ensures.value c.call-in-d.ensures.after
