use Rattle.std.proofs.Common.{◌≡◌, ◌-◌, ◌<◌, ◌++◌, ◌∷◌, [], length, sym, ◌∙◌, arith}
use Rattle.std.proofs.lemmas.List.Elements.{All-nil}
use Rattle.dump_reading.proofs.Texts.{byte_was, read_goes_on, bytes_go_on, less_is_left, some_left, stops_at, same_read, not_bad, one_place, all_read, read_of_nothing}
use Rattle.dump_reading.proofs.printable.read_printable.Goals as goal

pub loop-left-init : goal.loop-left-init
loop-left-init c = record {
  all = rw c.new-read.ensures.items (read_of_nothing c.args.escaped c.args.bytes.now);
  small = rw c.new-read.ensures.items (All-nil (λ b. b < 256));
  within = omega arith;
}

pub loop-left-smaller : goal.loop-left-smaller
loop-left-smaller c = less_is_left c.args.escaped c.loop-left.left.now c.in-Byte.rest.now c.in-Byte.byte c.in-Byte.ensures

pub loop-left-preserved : goal.loop-left-preserved
loop-left-preserved c =
    let escaped = c.args.escaped in
    let front = c.loop-left.read.items in
    let left = c.loop-left.left.now in
    let rest = c.in-Byte.rest.now in
    let byte = c.in-Byte.byte in
    let e = c.in-Byte.ensures in
    let items_are : c.push.new.self.items ≡ front ++ byte ∷ [] = c.in_ok-push-in-Byte.ensures.items in
    record {
      all = rw items_are (read_goes_on escaped front left rest c.args.bytes.now byte e c.loop-left.invariant.all);
      small = rw items_are (bytes_go_on front byte c.loop-left.invariant.small (byte_was escaped left rest byte e).1);
      within = omega (arith, less_is_left escaped left rest byte e, c.loop-left.invariant.within);
    }

pub returns-in-Unfit-clause-only : goal.returns-in-Unfit-clause-only
returns-in-Unfit-clause-only c =
    let left = c.loop-left.left.now in
    let bytes = c.args.bytes.now in
    let bad = stops_at c.args.escaped c.loop-left.read.items left bytes c.in-Unfit.ensures (some_left left c.loop-left-test.ensures)
    c.loop-left.invariant.small c.loop-left.invariant.all in
    λ read h e. not_bad c.args.escaped bytes read (length bytes - length left) bad h e

pub returns-in-Unfit-clause-exact : goal.returns-in-Unfit-clause-exact
returns-in-Unfit-clause-exact c =
    let left = c.loop-left.left.now in
    stops_at c.args.escaped c.loop-left.read.items left c.args.bytes.now c.in-Unfit.ensures (some_left left c.loop-left-test.ensures)
    c.loop-left.invariant.small c.loop-left.invariant.all

pub returns-clause-found : goal.returns-clause-found
returns-clause-found c =
    let all = all_read c.args.escaped c.loop-left.read.items c.loop-left.left.now c.args.bytes.now c.loop-left-test.ensures c.loop-left.invariant.all in
    rw c.in_ok-from_vec.ensures (all, c.loop-left.invariant.small)

pub returns-clause-only : goal.returns-clause-only
returns-clause-only c =
    let escaped = c.args.escaped in
    let front = c.loop-left.read.items in
    let all = all_read escaped front c.loop-left.left.now c.args.bytes.now c.loop-left-test.ensures c.loop-left.invariant.all in
    λ read h e. c.in_ok-from_vec.ensures ∙ same_read escaped front read c.loop-left.invariant.small h (sym all ∙ e)

pub returns-in-Unfit-clause-stops : goal.returns-in-Unfit-clause-stops
returns-in-Unfit-clause-stops c =
    let left = c.loop-left.left.now in
    let bytes = c.args.bytes.now in
    let bad = stops_at c.args.escaped c.loop-left.read.items left bytes c.in-Unfit.ensures (some_left left c.loop-left-test.ensures)
    c.loop-left.invariant.small c.loop-left.invariant.all in
    λ place worse. one_place c.args.escaped bytes (length bytes - length left) place bad worse

pub returns-clause-stops : goal.returns-clause-stops
returns-clause-stops c =
    let escaped = c.args.escaped in
    let front = c.loop-left.read.items in
    let all = all_read escaped front c.loop-left.left.now c.args.bytes.now c.loop-left-test.ensures c.loop-left.invariant.all in
    λ place bad. not_bad escaped c.args.bytes.now front place bad c.loop-left.invariant.small all
