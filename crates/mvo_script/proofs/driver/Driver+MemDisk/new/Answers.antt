use Rattle.mvo_script.proofs.driver.Driver+MemDisk.new.Goals as goal

pub returns-clause-fresh : goal.returns-clause-fresh
returns-clause-fresh g c = record {
  world = rw c.over.ensures.world c.in_ok-world.ensures.fresh;
  names = c.over.ensures.names;
}
