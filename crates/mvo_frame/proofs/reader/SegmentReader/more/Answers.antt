use Rattle.std.proofs.Common.{None, Some, drop, arith}
use Rattle.mvo_frame.specs.Slices.{IsGroupRead}
use Rattle.mvo_frame.proofs.Slices.{first_shorter, first_most, first_gate, first_read, first_rest, none_first, next_refused, window_refused}
use Rattle.mvo_frame.proofs.reader.SegmentReader.more.Goals as goal

pub returns-in-Err-clause-refused : goal.returns-in-Err-clause-refused
returns-in-Err-clause-refused c upto start bytes is w = window_refused upto start bytes c.args.window.now c.args.self.now is w c.in-Err.refusal c.in-Err.ensures.refused

pub returns-in-Err-clause-why : goal.returns-in-Err-clause-why
returns-in-Err-clause-why c = next_refused c.args.self.now c.args.window.now c.in-Err.refusal c.in-Err.ensures.refused

pub returns-in_default-clause-end : goal.returns-in_default-clause-end
returns-in_default-clause-end c upto start bytes is w end =
    let s : IsGroupRead c.args.self.now c.args.window.now None c.next.new.self = rw c.in_default.is at c.in-Ok.ensures.ok in
    none_first c.args.self.now c.args.window.now c.next.new.self (λ i. omega (arith, c.type_inv.window i)) s upto start bytes is w

pub overflow_sub-taken : goal.overflow_sub-taken
overflow_sub-taken c =
    let s : IsGroupRead c.args.self.now c.args.window.now (Some c.in-Some.rest.now) c.next.new.self = rw c.in-Some.is at c.in-Ok.ensures.ok in
    let short = first_shorter c.args.self.now c.args.window.now c.in-Some.rest.now c.next.new.self (λ i. omega (arith, c.type_inv.window i)) s in
    omega (arith, short)

pub returns-then-taken-most-clause-read : goal.returns-then-taken-most-clause-read
returns-then-taken-most-clause-read c upto start bytes is w =
    let s : IsGroupRead c.args.self.now c.args.window.now (Some c.in-Some.rest.now) c.next.new.self = rw c.in-Some.is at c.in-Ok.ensures.ok in
    first_read c.args.self.now c.args.window.now c.in-Some.rest.now c.next.new.self (λ i. omega (arith, c.type_inv.window i)) s upto start bytes is w

pub returns-then-taken-most-clause-some : goal.returns-then-taken-most-clause-some
returns-then-taken-most-clause-some c more =
    let s : IsGroupRead c.args.self.now c.args.window.now (Some c.in-Some.rest.now) c.next.new.self = rw c.in-Some.is at c.in-Ok.ensures.ok in
    let short = first_shorter c.args.self.now c.args.window.now c.in-Some.rest.now c.next.new.self (λ i. omega (arith, c.type_inv.window i)) s in
    let gate = first_gate c.args.self.now c.args.window.now c.in-Some.rest.now c.next.new.self (λ i. omega (arith, c.type_inv.window i)) s in
    omega (arith, short, gate)

pub returns-then-taken-most-clause-most : goal.returns-then-taken-most-clause-most
returns-then-taken-most-clause-most c =
    let s : IsGroupRead c.args.self.now c.args.window.now (Some c.in-Some.rest.now) c.next.new.self = rw c.in-Some.is at c.in-Ok.ensures.ok in
    let most = first_most c.args.self.now c.args.window.now c.in-Some.rest.now c.next.new.self (λ i. omega (arith, c.type_inv.window i)) s in
    let gate = first_gate c.args.self.now c.args.window.now c.in-Some.rest.now c.next.new.self (λ i. omega (arith, c.type_inv.window i)) s in
    omega (arith, most, gate)

pub returns-clause-read : goal.returns-clause-read
returns-clause-read c upto start bytes is w =
    let s : IsGroupRead c.args.self.now c.args.window.now (Some c.in-Some.rest.now) c.next.new.self = rw c.in-Some.is at c.in-Ok.ensures.ok in
    let read = first_read c.args.self.now c.args.window.now c.in-Some.rest.now c.next.new.self (λ i. omega (arith, c.type_inv.window i)) s upto start bytes is w in
    let at = first_rest c.args.self.now c.args.window.now c.in-Some.rest.now c.next.new.self (λ i. omega (arith, c.type_inv.window i)) s upto start bytes is w in
    c.read_on.ensures.read upto start bytes (drop w.reach (drop c.args.self.now.gate bytes)) read at

pub returns-clause-end : goal.returns-clause-end
returns-clause-end c upto start bytes is w =
    let s : IsGroupRead c.args.self.now c.args.window.now (Some c.in-Some.rest.now) c.next.new.self = rw c.in-Some.is at c.in-Ok.ensures.ok in
    let read = first_read c.args.self.now c.args.window.now c.in-Some.rest.now c.next.new.self (λ i. omega (arith, c.type_inv.window i)) s upto start bytes is w in
    let at = first_rest c.args.self.now c.args.window.now c.in-Some.rest.now c.next.new.self (λ i. omega (arith, c.type_inv.window i)) s upto start bytes is w in
    c.read_on.ensures.end upto start bytes (drop w.reach (drop c.args.self.now.gate bytes)) read at

pub returns-clause-some : goal.returns-clause-some
returns-clause-some c more =
    let s : IsGroupRead c.args.self.now c.args.window.now (Some c.in-Some.rest.now) c.next.new.self = rw c.in-Some.is at c.in-Ok.ensures.ok in
    let short = first_shorter c.args.self.now c.args.window.now c.in-Some.rest.now c.next.new.self (λ i. omega (arith, c.type_inv.window i)) s in
    let gate = first_gate c.args.self.now c.args.window.now c.in-Some.rest.now c.next.new.self (λ i. omega (arith, c.type_inv.window i)) s in
    omega (arith, short, gate, c.read_on.ensures.grows)

pub returns-clause-within : goal.returns-clause-within
returns-clause-within c =
    let s : IsGroupRead c.args.self.now c.args.window.now (Some c.in-Some.rest.now) c.next.new.self = rw c.in-Some.is at c.in-Ok.ensures.ok in
    let short = first_shorter c.args.self.now c.args.window.now c.in-Some.rest.now c.next.new.self (λ i. omega (arith, c.type_inv.window i)) s in
    let gate = first_gate c.args.self.now c.args.window.now c.in-Some.rest.now c.next.new.self (λ i. omega (arith, c.type_inv.window i)) s in
    omega (arith, short, gate, c.read_on.ensures.within)
