use Rattle.access_paths.specs.Paths.{path_key}
use Rattle.access_paths.proofs.KeyOrders.{is_eq-key_order}
use Rattle.access_paths.proofs.path.Path.is_same.Goals as goal

pub returns : goal.returns
returns c = rw (c.is_eq.ensures, c.compare.ensures) (is_eq-key_order (path_key c.args.self.now) (path_key c.args.other.now))
