use Rattle.std.proofs.Common.{arith}
use Rattle.columns.proofs.Answered.{lay_sound, append_all}
use Rattle.columns.proofs.ColumnsKeeper.append.Goals as goal

pub invariant_of-self : goal.invariant_of-self
invariant_of-self c =
    let s = c.args.self.now in
    record { sound = lay_sound _ _ _ _ _ _ c.args.header c.args.entries.now s.sound c.fill-count.ensures c.in_ok-admit.ensures _ (rw (c.start_of.ensures) at c.put_stamp.ensures) (omega arith); fits = s.fits }

pub invariant_of-self-2 : goal.invariant_of-self-2
invariant_of-self-2 c =
    let s = c.args.self.now in
    record {
      sound =
          rw c.price.ensures
          (append_all _ _ _ _ _ _ c.args.header c.args.entries.now s.sound c.fill-count.ensures c.in_ok-admit.ensures _ (rw (c.start_of.ensures) at c.put_stamp.ensures) (omega arith) _ (rw (c.place_cell-back.ensures) at c.put_place.ensures) (omega arith)).0;
      fits = s.fits;
    }

pub returns-clause-keeps : goal.returns-clause-keeps
returns-clause-keeps c ok =
    rw c.price.ensures
    (append_all _ _ _ _ _ _ c.args.header c.args.entries.now ok c.fill-count.ensures c.in_ok-admit.ensures _ (rw (c.start_of.ensures) at c.put_stamp.ensures) (omega arith) _ (rw (c.place_cell-back.ensures) at c.put_place.ensures) (omega arith))
