-- The words of the rules.
use Rattle.std.specs.Prelude.{codes, ℕ, List}
use Rattle.scenario_rules.specs.declared.rule.Rule.{Rule}
use Rattle.scenario_rules.specs.declared.rule.Rule.TheVariants.{Utf8, Toml, Keys, Range, Drives, Space, Files, Actors, Op, Name, Drive, Job, Jobs, Reads, Unbuilt}

-- the word by which a refusal names the rule
abbrev pub word_of : Rule → List ℕ
word_of Utf8 = codes "utf8"
word_of Toml = codes "toml"
word_of Keys = codes "keys"
word_of Range = codes "range"
word_of Drives = codes "drives"
word_of Space = codes "space"
word_of Files = codes "files"
word_of Actors = codes "actors"
word_of Op = codes "op"
word_of Name = codes "name"
word_of Drive = codes "drive"
word_of Job = codes "job"
word_of Jobs = codes "jobs"
word_of Reads = codes "reads"
word_of Unbuilt = codes "unbuilt"
