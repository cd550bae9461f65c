use Rattle.std.proofs.Common.{Some, ap}
use Rattle.rangemap.proofs.Seeks.{free_some}
use Rattle.rangemap.proofs.items.Items.insert.Goals as goal

pub returns-in-Err-clause-changed : goal.returns-in-Err-clause-changed
returns-in-Err-clause-changed g c tight =
    free_some g.K.Key g.met.V.Value.lawful c.args.key (rw c.in-Some.ensures at c.in-Some.held.held) (λ _. Some c.args.value) c.args.self.now.items c.in-Err.addr tight (rw c.in-Some.ensures at (c.in-Err.ensures.found tight)) c.args.value c.insert_at.new.self.items (g.met.V.Value.lawful.refl c.args.value) (ap (λ m. m.items) c.insert_at.ensures)
