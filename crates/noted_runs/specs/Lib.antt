pub mod NotedRuns
