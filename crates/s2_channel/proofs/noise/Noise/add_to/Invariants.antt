use Rattle.std.proofs.Common.{◌≡◌, ◌++◌, take, drop, length}
use Rattle.s2_channel.specs.Noise.{drawn_for, noisy}
use Rattle.s2_mode.specs.Symbols.{bytes_of_symbols}
use Rattle.s2_channel.proofs.noise.Noise.add_to.Given as goal

-- the symbols so far have their noise, and the rest will get it
abbrev pub invariant-add : goal.invariant-add
invariant-add l = record {
  whole : bytes_of_symbols (take l.i l.symbols) ++ noisy l.fn.self.strength l.self.generator (drop l.i l.symbols) ≡ noisy l.fn.self.strength l.fn.self.generator l.fn.symbols;
  drawn : l.self.generator ≡ drawn_for l.fn.self.strength l.i l.fn.self.generator;
  strength : l.self.strength ≡ l.fn.self.strength;
  length : length l.symbols ≡ length l.fn.symbols;
}
