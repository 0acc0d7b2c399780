-- The types of the elements of commands and answers, in this project's profile of the repo protocol.
use Rattle.std.specs.Prelude.{ℕ}

-- What a command asks for, at the start of its ApplicationParameters.
abbrev pub RepoCommandParameter : ℕ
RepoCommandParameter = 201

-- The index of the first block of an insertion.
abbrev pub StartBlockId : ℕ
StartBlockId = 204

-- The index of the last block of an insertion.
abbrev pub EndBlockId : ℕ
EndBlockId = 205

-- The number of an insertion process.
abbrev pub ProcessId : ℕ
ProcessId = 206

-- The answer to a command.
abbrev pub RepoCommandResponse : ℕ
RepoCommandResponse = 207

-- The status code of an answer, at most 65,535.
abbrev pub StatusCode : ℕ
StatusCode = 208

-- How many blocks of an insertion process have come.
abbrev pub InsertNum : ℕ
InsertNum = 209

-- How many packets a deletion dropped, records and index packets included.
abbrev pub DeleteNum : ℕ
DeleteNum = 210
