use Rattle.std.proofs.Common.{None, refl, ap}
use Rattle.rangemap.proofs.Seeks.{free_some, free_none}
use Rattle.rangemap.proofs.items.Items.update.Goals as goal

pub returns-in-Some-apply-clause-changed : goal.returns-in-Some-apply-clause-changed
returns-in-Some-apply-clause-changed g c tight =
    free_some g.K.Key g.met.V.Value.lawful c.args.range (rw c.in-Some.ensures at c.in-Some.held.held) (g.C.Change.makes c.args.change.now) c.args.self.now.items c.in-Err.addr tight (rw c.in-Some.ensures at (c.in-Err.ensures.found tight)) c.in-Some-apply.value c.insert_at.new.self.items (c.in-Some-apply.ensures None refl) (ap (λ m. m.items) c.insert_at.ensures)

pub returns-in_default-apply-clause-changed : goal.returns-in_default-apply-clause-changed
returns-in_default-apply-clause-changed g c tight =
    free_none g.K.Key g.met.V.Value.lawful c.args.range (rw c.in-Some.ensures at c.in-Some.held.held) (g.C.Change.makes c.args.change.now) c.args.self.now.items c.in-Err.addr tight (rw c.in-Some.ensures at (c.in-Err.ensures.found tight)) (c.in_default-apply.ensures None refl)
