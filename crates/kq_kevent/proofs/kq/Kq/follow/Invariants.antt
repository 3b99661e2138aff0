use Rattle.std.proofs.Common.{◌≡◌, drop}
use Rattle.kq_model.specs.Following.{all_forks, followed_each}
use Rattle.kq_kevent.specs.Owned.{limit}
use Rattle.kq_kevent.proofs.kq.Kq.follow.Given as goal

abbrev pub invariant-loop-told : goal.invariant-loop-told
invariant-loop-told l = record {
  so_far : followed_each (all_forks (drop l.told-index l.hints)) l.self.kq ≡ followed_each (all_forks l.hints) l.initial.self.kq;
  owner : l.self.owner ≡ l.initial.self.owner;
  version : l.self.version ≡ l.initial.self.version;
  limit : limit l.self ≡ limit l.initial.self;
}
