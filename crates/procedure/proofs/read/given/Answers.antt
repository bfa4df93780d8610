use Rattle.std.proofs.Common.{ℕ, Ok, Err, Result, sym}
use Rattle.fault.specs.declared.fault.Fault.{Fault}
use Rattle.procedure.specs.Procedures.{drawing}
use Rattle.procedure.proofs.Readings.{refused-exactly, accepted-exactly, laid-out-exactly, read-refused, read-accepted}
use Rattle.procedure.proofs.read.given.Goals as goal

pub returns-in-Err : goal.returns-in-Err
returns-in-Err c =
    let b = c.args.file.now in
    let r : Result ℕ Fault = Err c.in-Err.fault in
    let e = read-refused b c.in-Err.fault (drawing c.new.result) c.in-Err.ensures c.new.ensures.holds_nothing in
    record {
      answer = e.0;
      contents = e.1;
      refused = refused-exactly b r e.0;
      accepted = accepted-exactly b r e.0;
      laid_out = laid-out-exactly b r (drawing c.new.result) e.0 e.1;
    }

pub returns-in-Ok : goal.returns-in-Ok
returns-in-Ok c =
    let b = c.args.file.now in
    let n = c.node_count-nodes.result in
    let r : Result ℕ Fault = Ok n in
    let h = c.in-Ok.ensures in
    let e = read-accepted b n (drawing c.in-Ok.procedure) h.1 h.0 (sym c.node_count-nodes.ensures.counts_nodes) in
    record {
      answer = e.0;
      contents = e.1;
      refused = refused-exactly b r e.0;
      accepted = accepted-exactly b r e.0;
      laid_out = laid-out-exactly b r (drawing c.in-Ok.procedure) e.0 e.1;
    }
